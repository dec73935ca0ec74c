-- A packet in a buffer that gets padding: its bytes, and what they say.
use Rattle.rtp_wire.proofs.Common.{◌≡◌, ℕ, zero, suc, ◌+◌, ◌-◌, ◌*◌, ◌/◌, ◌%◌, ◌<◌, ◌≤◌, true, List, [], ◌∷◌, ◌++◌, length, take, drop, inl, inr, refl, sym, ap, subst, ◌∙◌, arith, append_assoc, length-append, length-take-le, take_at, drop_at, slice_index, replicate, cases_lt, length-replicate, ChangesOnly, PacketParts, IsPacket, padding_bytes, with_padding_bit, IsPaddingLength, is_set, form_in, header_end, parts_at}
use Rattle.rtp_base.specs.Overwriting.{overwritten}
use Rattle.rtp_wire.specs.AddedPadding.{with_padding, IsAddedCount}
use Rattle.rtp_wire.proofs.FlagLemmas.{bit-once}
use Rattle.rtp_wire.proofs.HeaderFound.{HasHeader, IsWhole-header}
use Rattle.rtp_wire.proofs.PacketLemmas.{bit-is_set, IsPacket-whole, whole_and_parts}
use Rattle.rtp_wire.proofs.PartsLemmas.{length-packet}
use Rattle.rtp_wire.proofs.PaddingChanges.{HasPadding, parts-padding, HasHeader-padding, IsPacket-longer}

-- the bit alone
first-set : (bytes : List ℕ) → slice_index bytes 0 / 64 ≡ 2 → 1 ≤ length bytes → HasPadding (slice_index bytes 0) (slice_index (with_padding_bit bytes) 0) true
first-set [] version some = absurd (omega arith)
first-set (first ∷ rest) version some = record {
  version_is = omega arith;
  padding_is = bit-once (is_set (first / 64 * 64 + 32 + first % 32) 32) true (bit-is_set (first / 64 * 64 + 32 + first % 32) 32 ∙ omega arith);
  extension_is = bit-once (is_set (first / 64 * 64 + 32 + first % 32) 16) (is_set first 16) (bit-is_set (first / 64 * 64 + 32 + first % 32) 16 ∙ omega arith ∙ sym (bit-is_set first 16));
  count_is = omega arith;
}

only-first : (bytes : List ℕ) → ChangesOnly 0 1 bytes (with_padding_bit bytes)
only-first [] = record { length_is = refl; before_is = refl; after_is = refl }
only-first (first ∷ rest) = record { length_is = refl; before_is = refl; after_is = refl }

second-stays : (bytes : List ℕ) → slice_index (with_padding_bit bytes) 1 ≡ slice_index bytes 1
second-stays [] = refl
second-stays (first ∷ rest) = refl

take-with_bit : (len : ℕ) (buf : List ℕ) → take len (with_padding_bit buf) ≡ with_padding_bit (take len buf)
take-with_bit zero [] = refl
take-with_bit zero (first ∷ rest) = refl
take-with_bit (suc len) [] = refl
take-with_bit (suc len) (first ∷ rest) = refl

length-with_bit : (buf : List ℕ) → length (with_padding_bit buf) ≡ length buf
length-with_bit [] = refl
length-with_bit (first ∷ rest) = refl

IsPacket-set : (bytes : List ℕ) → slice_index bytes 1 < 256 → IsPacket bytes (parts_at bytes) → IsPacket (with_padding_bit bytes) (record (parts_at bytes) { has_padding = true })
IsPacket-set bytes fits is =
    let whole = (whole_and_parts bytes (parts_at bytes) is).0 in
    let header : HasHeader bytes (header_end bytes) (form_in bytes) = record { fixed = whole.fixed; version = whole.version; announced = refl; ends = refl; within = whole.within } in
    let fixed = whole.fixed in
    let has = first-set bytes whole.version (omega arith) in
    let new = HasHeader-padding bytes (with_padding_bit bytes) true (only-first bytes) has (header_end bytes) (form_in bytes) header in
    subst (λ (parts : PacketParts). IsPacket (with_padding_bit bytes) parts) (parts-padding bytes (with_padding_bit bytes) true (only-first bytes) has)
    (IsPacket-whole (with_padding_bit bytes) (omega (arith, fits, second-stays bytes)) (IsWhole-header (with_padding_bit bytes) (header_end bytes) (form_in bytes) new))

length-padding : (n : ℕ) → length (padding_bytes (suc n)) ≡ suc n
length-padding n = length-append (replicate (suc n - 1) 0) (suc n ∷ []) ∙ omega (arith, length-replicate {A = ℕ} (suc n - 1) 0)

-- the front of the buffer once the padding is put
front-padded : (buf : List ℕ) (len n : ℕ) → len + suc n ≤ length buf
    → take (len + suc n) (overwritten (with_padding_bit buf) len (padding_bytes (suc n))) ≡ with_padding_bit (take len buf) ++ padding_bytes (suc n)
unfolding overwritten
front-padded buf len n room =
    let bit = with_padding_bit buf in
    let pads = padding_bytes (suc n) in
    let rest = drop (len + length pads) bit in
    let long : length (take len bit) ≡ len = length-take-le len bit (omega (arith, length-with_bit buf, room)) in
    ap (take (len + suc n)) (sym (append_assoc (take len bit) pads rest))
    ∙ take_at (take len bit ++ pads) rest (len + suc n) (omega (arith, length-append (take len bit) pads, long, length-padding n))
    ∙ ap (λ (xs : List ℕ). xs ++ pads) (take-with_bit len buf)

-- what the packet then says
pub padded : (buf : List ℕ) (len n : ℕ) → len + suc n ≤ length buf → slice_index (take len buf) 1 < 256 → IsPacket (take len buf) (parts_at (take len buf))
    → IsPacket (take (len + suc n) (overwritten (with_padding_bit buf) len (padding_bytes (suc n)))) (with_padding (suc n) (parts_at (take len buf)))
padded buf len n room fits is =
    subst (λ (bytes : List ℕ). IsPacket bytes (with_padding (suc n) (parts_at (take len buf)))) (sym (front-padded buf len n room))
    (IsPacket-longer (with_padding_bit (take len buf)) (padding_bytes (suc n)) (record (parts_at (take len buf)) { has_padding = true }) (IsPacket-set (take len buf) fits is))

drop-with_bit : (k : ℕ) (buf : List ℕ) → 1 ≤ k → drop k (with_padding_bit buf) ≡ drop k buf
drop-with_bit zero buf some = absurd (omega arith)
drop-with_bit (suc k) [] some = refl
drop-with_bit (suc k) (first ∷ rest) some = refl

-- the bytes behind it
pub behind-padded : (buf : List ℕ) (len n : ℕ) → 1 ≤ len → len + suc n ≤ length buf
    → drop (len + suc n) (overwritten (with_padding_bit buf) len (padding_bytes (suc n))) ≡ drop (len + suc n) buf
unfolding overwritten
behind-padded buf len n some room =
    let bit = with_padding_bit buf in
    let pads = padding_bytes (suc n) in
    let long : length (take len bit) ≡ len = length-take-le len bit (omega (arith, length-with_bit buf, room)) in
    ap (drop (len + suc n)) (sym (append_assoc (take len bit) pads (drop (len + length pads) bit)))
    ∙ drop_at (take len bit ++ pads) (drop (len + length pads) bit) (len + suc n) (omega (arith, length-append (take len bit) pads, long, length-padding n))
    ∙ ap (λ (k : ℕ). drop (len + k) bit) (length-padding n)
    ∙ drop-with_bit (len + suc n) buf (omega arith)

pub added : (wanted block count : ℕ) → (wanted ≡ 0 → count ≡ 0) → (0 < wanted → IsPaddingLength wanted block count) → IsAddedCount wanted block count
added zero block count nothing some = nothing refl
added (suc n) block count nothing some = some (omega arith)

-- what is known of the buffer, whether padding was wanted or not
module _ (buf new : List ℕ) (len count pad_len block : ℕ) (nothing : pad_len ≡ 0 → count ≡ 0) (same : pad_len ≡ 0 → new ≡ buf)
    (count-is : 0 < pad_len → IsPaddingLength pad_len block count) (written : 0 < pad_len → new ≡ overwritten (with_padding_bit buf) len (padding_bytes count))
    (room : 0 < pad_len → len + count ≤ length buf) (within : len ≤ length buf) where
  pub within-padded : len + count ≤ length buf
  within-padded = elim (cases_lt 0 pad_len) [
    | inl some ↦ room some
    | inr none ↦ omega (arith, nothing (omega arith), within)
  ]

  one_more : 0 < pad_len → suc (count - 1) ≡ count
  one_more some = let is = count-is some in omega (arith, is.lesser, is.in_blocks.enough)

  pub IsPacket-padded : slice_index (take len buf) 1 < 256 → IsPacket (take len buf) (parts_at (take len buf))
      → IsPacket (take (len + count) new) (with_padding count (parts_at (take len buf)))
  IsPacket-padded fits is = elim (cases_lt 0 pad_len) [
    | inl some ↦
        subst (λ (bytes : List ℕ). IsPacket (take (len + count) bytes) (with_padding count (parts_at (take len buf)))) (sym (written some))
        (subst (λ (k : ℕ). IsPacket (take (len + k) (overwritten (with_padding_bit buf) len (padding_bytes k))) (with_padding k (parts_at (take len buf)))) (one_more some)
        (padded buf len (count - 1) (omega (arith, room some, one_more some)) fits is))
    | inr none ↦
        let zero-is : pad_len ≡ 0 = omega arith in
        subst (λ (bytes : List ℕ). IsPacket (take (len + count) bytes) (with_padding count (parts_at (take len buf)))) (sym (same zero-is))
        (subst (λ (k : ℕ). IsPacket (take (len + k) buf) (with_padding k (parts_at (take len buf)))) (sym (nothing zero-is))
        (subst (λ (k : ℕ). IsPacket (take k buf) (parts_at (take len buf))) (omega arith) is))
  ]

  pub behind-all : IsPacket (take len buf) (parts_at (take len buf)) → drop (len + count) new ≡ drop (len + count) buf
  behind-all is = elim (cases_lt 0 pad_len) [
    | inl some ↦
        ap (drop (len + count)) (written some)
        ∙ subst (λ (k : ℕ). drop (len + k) (overwritten (with_padding_bit buf) len (padding_bytes k)) ≡ drop (len + k) buf) (one_more some)
        (behind-padded buf len (count - 1) (omega (arith, length-packet (take len buf) (parts_at (take len buf)) is, length-take-le len buf within)) (omega (arith, room some, one_more some)))
    | inr none ↦ ap (drop (len + count)) (same (omega arith))
  ]
