-- A packet that is changed after the fixed part: in its CSRC list, or in the body of its block.
use Rattle.rtp_wire.proofs.Common.{◌≡◌, ℕ, zero, suc, ◌+◌, ◌*◌, ◌%◌, ◌<◌, ◌≤◌, List, [], ◌∷◌, ◌++◌, ◌^◌, length, map, take, drop, Option, refl, sym, ap, ◌∙◌, arith, set, length-drop, length-take-le, take_at, drop_at, slice_index, slice_range, w16, w32, from_be_bytes, to_be_bytes, first_chunks, drop-drop, drop-take, drop-append-le, length-map, from_be_bytes-to_be_bytes_4, ExtensionsForm, overwritten-front, sources_end, ChangesOnly}
use Rattle.rtp_base.specs.Overwriting.{overwritten}
use Rattle.rtp_wire.specs.PartsAt.{is_set, form_in, other_in, header_end, parts_at}
use Rattle.rtp_wire.proofs.GroupLemmas.{length-first_chunks, first_chunks-take}
use Rattle.rtp_wire.proofs.PacketLemmas.{same_parts}
use Rattle.rtp_wire.proofs.BytesBetween.{ChangesOnly-put, index_before, take_before, range_before, take-overwritten}
use Rattle.rtp_wire.proofs.PacketChanges.{block_by, block-stays, other_block-stays, payload-stays, stays-in_body}

-- the fields of the fixed part stay, and so does what the first byte says
fixed_stays : (start end : ℕ) (old new : List ℕ) → 12 ≤ start → ChangesOnly start end old new → (sources : List ℕ) (block : Option (ExtensionsForm × List ℕ)) (other : Option (ℕ × List ℕ)) (payload : List ℕ)
    → (parts_at new).sources ≡ sources → (parts_at new).block ≡ block → (parts_at new).other_block ≡ other → (parts_at new).payload ≡ payload
    → parts_at new ≡ record (parts_at old) { sources = sources; block = block; other_block = other; payload = payload }
unfolding parts_at
fixed_stays start end old new past is sources block other payload sources-is block-is other-is payload-is =
    let first = index_before start end old new is 0 (omega arith) in
    let second = index_before start end old new is 1 (omega arith) in
    same_parts (parts_at new) (record (parts_at old) { sources = sources; block = block; other_block = other; payload = payload })
    (ap (λ (byte : ℕ). is_set byte 32) first) (ap (λ (byte : ℕ). is_set byte 16) first)
    (ap (λ (byte : ℕ). is_set byte 128) second) (ap (λ (byte : ℕ). byte % 128) second)
    (ap (from_be_bytes w16) (range_before start end old new is 2 4 (omega arith) (omega arith)))
    (ap (from_be_bytes w32) (range_before start end old new is 4 8 (omega arith) (omega arith)))
    (ap (from_be_bytes w32) (range_before start end old new is 8 12 (omega arith) (omega arith)))
    sources-is block-is other-is payload-is

-- a change in the CSRC list
parts-in_sources : (old new : List ℕ) → ChangesOnly 12 (sources_end old) old new
    → parts_at new ≡ record (parts_at old) { sources = map (from_be_bytes w32) (first_chunks 4 (slice_index old 0 % 16) (drop 12 new)) }
unfolding parts_at
parts-in_sources old new is =
    fixed_stays 12 (sources_end old) old new (omega arith) is (map (from_be_bytes w32) (first_chunks 4 (slice_index old 0 % 16) (drop 12 new))) _ _ _
    (ap (λ (byte : ℕ). map (from_be_bytes w32) (first_chunks 4 (byte % 16) (drop 12 new))) (index_before 12 (sources_end old) old new is 0 (omega arith)))
    (block-stays 12 (sources_end old) old new is (omega arith) (omega arith)) (other_block-stays 12 (sources_end old) old new is (omega arith) (omega arith)) (payload-stays 12 (sources_end old) old new is (omega arith) (omega arith))

-- bytes that are put after the first ones
drop-overwritten_after : (xs ys : List ℕ) (k at : ℕ) → k + at ≤ length xs → drop k (overwritten xs (k + at) ys) ≡ overwritten (drop k xs) at ys
unfolding overwritten
drop-overwritten_after xs ys k at fits =
    drop-append-le k (take (k + at) xs) (ys ++ drop (k + at + length ys) xs) (omega (arith, length-take-le (k + at) xs fits))
    ∙ ap (λ (zs : List ℕ). zs ++ (ys ++ drop (k + at + length ys) xs)) (drop-take k at xs)
    ∙ ap (λ (zs : List ℕ). take at (drop k xs) ++ (ys ++ zs)) (ap (λ (n : ℕ). drop n xs) (omega arith) ∙ sym (drop-drop (at + length ys) k xs))

-- a group that is put in the place of another
pub first_chunks-put : (count i : ℕ) (xs group : List ℕ) → i < count → length group ≡ 4 → 4 * count ≤ length xs
    → first_chunks 4 count (overwritten xs (4 * i) group) ≡ set (first_chunks 4 count xs) i group
first_chunks-put zero i xs group within four long = absurd (omega arith)
first_chunks-put (suc count) zero xs group within four long =
    ap (λ (ys : List ℕ). take 4 ys ∷ first_chunks 4 count (drop 4 ys)) (overwritten-front xs group ∙ ap (λ (k : ℕ). group ++ drop k xs) four)
    ∙ ap (λ (ys : List ℕ). ys ∷ first_chunks 4 count (drop 4 (group ++ drop 4 xs))) (take_at group (drop 4 xs) 4 four)
    ∙ ap (λ (ys : List ℕ). group ∷ first_chunks 4 count ys) (drop_at group (drop 4 xs) 4 four)
first_chunks-put (suc count) (suc i) xs group within four long =
    let at : 4 * suc i ≡ 4 + 4 * i = omega arith in
    ap (λ (n : ℕ). first_chunks 4 (suc count) (overwritten xs n group)) at
    ∙ ap (λ (ys : List ℕ). ys ∷ first_chunks 4 count (drop 4 (overwritten xs (4 + 4 * i) group))) (take-overwritten xs group (4 + 4 * i) 4 (omega arith) (omega arith))
    ∙ ap (λ (ys : List ℕ). take 4 xs ∷ first_chunks 4 count ys) (drop-overwritten_after xs group 4 (4 * i) (omega arith))
    ∙ ap (λ (groups : List (List ℕ)). take 4 xs ∷ groups) (first_chunks-put count i (drop 4 xs) group (omega arith) four (omega (arith, length-drop 4 xs)))

map-set : (f : List ℕ → ℕ) (xs : List (List ℕ)) (i : ℕ) (x : List ℕ) → map f (set xs i x) ≡ set (map f xs) i (f x)
map-set f [] i x = refl
map-set f (y ∷ ys) zero x = refl
map-set f (y ∷ ys) (suc i) x = ap (λ (zs : List ℕ). f y ∷ zs) (map-set f ys i x)

-- a source that is put in the place of another
pub parts-source : (old : List ℕ) (i source : ℕ) → i < slice_index old 0 % 16 → source < 2 ^ 32 → sources_end old ≤ length old
    → parts_at (overwritten old (12 + 4 * i) (to_be_bytes w32 source)) ≡ record (parts_at old) { sources = set (parts_at old).sources i source }
unfolding parts_at
parts-source old i source within fits long =
    let group = to_be_bytes w32 source in
    let count = slice_index old 0 % 16 in
    let is = ChangesOnly-put old group 12 (sources_end old) (12 + 4 * i) (omega arith) (omega arith) long in
    let groups : first_chunks 4 count (drop 12 (overwritten old (12 + 4 * i) group)) ≡ set (first_chunks 4 count (drop 12 old)) i group =
    ap (first_chunks 4 count) (drop-overwritten_after old group 12 (4 * i) (omega arith))
    ∙ first_chunks-put count i (drop 12 old) group within refl (omega (arith, length-drop 12 old)) in
    parts-in_sources old (overwritten old (12 + 4 * i) group) is
    ∙ ap (λ (sources : List ℕ). record (parts_at old) { sources = sources })
    (ap (map (from_be_bytes w32)) groups ∙ map-set (from_be_bytes w32) (first_chunks 4 count (drop 12 old)) i group
    ∙ ap (set (map (from_be_bytes w32) (first_chunks 4 count (drop 12 old))) i) (from_be_bytes-to_be_bytes_4 source fits))

pub sources_len : (bytes : List ℕ) → length (parts_at bytes).sources ≡ slice_index bytes 0 % 16
unfolding parts_at
sources_len bytes = length-map (first_chunks 4 (slice_index bytes 0 % 16) (drop 12 bytes)) (from_be_bytes w32) ∙ length-first_chunks (slice_index bytes 0 % 16) (drop 12 bytes)

-- a change in the body of the block
pub parts-in_body : (old new : List ℕ) → ChangesOnly (sources_end old + 4) (header_end old) old new
    → parts_at new ≡ record (parts_at old) { block = block_by (form_in old) (slice_range new (sources_end old + 4) (header_end old)); other_block = block_by (other_in old) (slice_range new (sources_end old + 4) (header_end old)) }
unfolding parts_at block_by
parts-in_body old new is =
    let start = sources_end old + 4 in
    let stays = stays-in_body old new is in
    let count = slice_index old 0 % 16 in
    let front : take (4 * count) (drop 12 new) ≡ take (4 * count) (drop 12 old) =
    sym (drop-take 12 (4 * count) new) ∙ ap (drop 12) (take_before start (header_end old) old new is (12 + 4 * count) (omega arith)) ∙ drop-take 12 (4 * count) old in
    let groups : first_chunks 4 (slice_index new 0 % 16) (drop 12 new) ≡ first_chunks 4 count (drop 12 old) =
    ap (λ (byte : ℕ). first_chunks 4 (byte % 16) (drop 12 new)) stays.first_is
    ∙ sym (first_chunks-take count (drop 12 new)) ∙ ap (first_chunks 4 count) front ∙ first_chunks-take count (drop 12 old) in
    let body : (A : Type 0) (word : Option A) → block_by word (slice_range new (sources_end new + 4) (header_end new)) ≡ block_by word (slice_range new start (header_end old)) =
    λ A word. ap (λ (k : ℕ). block_by word (slice_range new (k + 4) (header_end new))) stays.sources_end_is ∙ ap (λ (k : ℕ). block_by word (slice_range new start k)) stays.end_is in
    fixed_stays start (header_end old) old new (omega arith) is (parts_at old).sources _ _ (parts_at old).payload
    (ap (map (from_be_bytes w32)) groups)
    (ap (λ (form : Option ExtensionsForm). block_by form (slice_range new (sources_end new + 4) (header_end new))) stays.form_is ∙ body ExtensionsForm (form_in old))
    (ap (λ (other : Option ℕ). block_by other (slice_range new (sources_end new + 4) (header_end new))) stays.other_is ∙ body ℕ (other_in old))
    (ap (λ (k : ℕ). drop k new) stays.end_is ∙ is.after_is)
