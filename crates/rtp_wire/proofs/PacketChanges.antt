-- A packet whose bytes are changed where they lie: what says where its parts are stays, and in the fixed part each field changes alone.
use Rattle.rtp_wire.proofs.Common.{◌≡◌, ℕ, ◌+◌, ◌*◌, ◌/◌, ◌%◌, ◌<◌, ◌≤◌, ◌^◌, Bool, true, false, bit_and, List, [], ◌∷◌, length, map, take, drop, Option, Some, None, is_some, refl, sym, ap, subst, ◌∙◌, arith, slice_index, slice_range, option_map, if◌then◌else◌, w16, w32, from_be_bytes, to_be_bytes, first_chunks, eq-eqb, ne_eqb, from_be_bytes-to_be_bytes_2, from_be_bytes-to_be_bytes_4, and_mask, and_pow, drop-take, bit, overwritten, ExtensionsForm, word_at, sources_end, IsSecondByte, ChangesOnly}
use Rattle.rtp_wire.specs.PartsAt.{is_set, form_of_word, form_in, profile_in, other_in, header_end, parts_at}
use Rattle.rtp_wire.proofs.BlockLemmas.{word_at-take}
use Rattle.rtp_wire.proofs.FlagLemmas.{fields_from_second}
use Rattle.rtp_wire.proofs.PacketLemmas.{bit-is_set, same_parts}
use Rattle.rtp_wire.proofs.HeaderFound.{HasHeader}
use Rattle.rtp_wire.proofs.BytesBetween.{ChangesOnly-put, index_before, range_before, drop_after, range_after, index-put, range-put}

-- where the block and the header end, and the form, by the first byte and the first four bytes after the sources
end_by : ℕ → ℕ → ℕ
end_by first words = 12 + 4 * (first % 16) + (if is_set first 16 then 4 + 4 * words else 0)

form_by : ℕ → ℕ → Option ExtensionsForm
form_by first word = if is_set first 16 then form_of_word word else None

profile_by : ℕ → ℕ → Option ℕ
profile_by first word = if is_set first 16 then Some word else None

other_by : ℕ → ℕ → Option ℕ
other_by first word = if is_some (form_by first word) then None else profile_by first word

-- the first byte stays, and what says where the header ends and which form its block has
pub record StaysLaidOut (old new : List ℕ) : Type 0 where
  pub length_is : length new ≡ length old
  pub first_is : slice_index new 0 ≡ slice_index old 0
  pub sources_end_is : sources_end new ≡ sources_end old
  pub form_is : form_in new ≡ form_in old
  pub other_is : other_in new ≡ other_in old
  pub end_is : header_end new ≡ header_end old

stays_by : (old new : List ℕ) → length new ≡ length old → slice_index new 0 ≡ slice_index old 0
    → word_at (drop (sources_end new) new) 0 ≡ word_at (drop (sources_end old) old) 0
    → word_at (drop (sources_end new) new) 2 ≡ word_at (drop (sources_end old) old) 2 → StaysLaidOut old new
unfolding form_in profile_in other_in header_end end_by form_by profile_by other_by
stays_by old new length_is first form words =
    let form_is : form_by (slice_index new 0) (word_at (drop (sources_end new) new) 0) ≡ form_by (slice_index old 0) (word_at (drop (sources_end old) old) 0) =
    ap (λ (byte : ℕ). form_by byte (word_at (drop (sources_end new) new) 0)) first ∙ ap (form_by (slice_index old 0)) form in
    let other_is : other_by (slice_index new 0) (word_at (drop (sources_end new) new) 0) ≡ other_by (slice_index old 0) (word_at (drop (sources_end old) old) 0) =
    ap (λ (byte : ℕ). other_by byte (word_at (drop (sources_end new) new) 0)) first ∙ ap (other_by (slice_index old 0)) form in
    let end_is : end_by (slice_index new 0) (word_at (drop (sources_end new) new) 2) ≡ end_by (slice_index old 0) (word_at (drop (sources_end old) old) 2) =
    ap (λ (byte : ℕ). end_by byte (word_at (drop (sources_end new) new) 2)) first ∙ ap (end_by (slice_index old 0)) words in
    record { length_is = length_is; first_is = first; sources_end_is = ap (λ (byte : ℕ). 12 + 4 * (byte % 16)) first; form_is = form_is; other_is = other_is; end_is = end_is }

pub HasHeader-stays : (old new : List ℕ) (len : ℕ) (form : Option ExtensionsForm) → StaysLaidOut old new → HasHeader old len form → HasHeader new len form
HasHeader-stays old new len form stays header =
    let fixed = header.fixed in
    let within = header.within in
    let length_is = stays.length_is in
    record {
      fixed = omega arith;
      version = ap (λ (byte : ℕ). byte / 64) stays.first_is ∙ header.version;
      announced = header.announced ∙ sym stays.form_is;
      ends = header.ends ∙ sym stays.end_is;
      within = omega arith;
    }

-- a block of one kind of word, with its body
unfoldable pub block_by : {A : Type 0} → Option A → List ℕ → Option (A × List ℕ)
block_by word body = option_map (λ w. (w, body)) word

past_sources : (bytes : List ℕ) → sources_end bytes ≤ header_end bytes
unfolding header_end
past_sources bytes = omega arith

-- a change after the first byte and before the block
module _ (start end : ℕ) (old new : List ℕ) (is : ChangesOnly start end old new) (past : 0 < start) (within : end ≤ sources_end old) where
  pub stays-before_block : StaysLaidOut old new
  stays-before_block =
      let first = index_before start end old new is 0 past in
      let after : drop (sources_end new) new ≡ drop (sources_end old) old =
      ap (λ (byte : ℕ). drop (12 + 4 * (byte % 16)) new) first ∙ drop_after start end old new is (sources_end old) within in
      stays_by old new is.length_is first (ap (λ (xs : List ℕ). word_at xs 0) after) (ap (λ (xs : List ℕ). word_at xs 2) after)

  body-stays : slice_range new (sources_end new + 4) (header_end new) ≡ slice_range old (sources_end old + 4) (header_end old)
  body-stays =
      let stays = stays-before_block in
      ap (λ (k : ℕ). slice_range new (k + 4) (header_end new)) stays.sources_end_is ∙ ap (slice_range new (sources_end old + 4)) stays.end_is
      ∙ range_after start end old new is (sources_end old + 4) (header_end old) (omega arith)

  by-stays : {A : Type 0} (word was : Option A) → word ≡ was
      → block_by word (slice_range new (sources_end new + 4) (header_end new)) ≡ block_by was (slice_range old (sources_end old + 4) (header_end old))
  by-stays {A} word was same = ap (λ (w : Option A). block_by w (slice_range new (sources_end new + 4) (header_end new))) same ∙ ap (block_by was) body-stays

  pub block-stays : (parts_at new).block ≡ (parts_at old).block
  unfolding parts_at block_by
  block-stays = by-stays (form_in new) (form_in old) stays-before_block.form_is

  pub other_block-stays : (parts_at new).other_block ≡ (parts_at old).other_block
  unfolding parts_at block_by
  other_block-stays = by-stays (other_in new) (other_in old) stays-before_block.other_is

  pub payload-stays : (parts_at new).payload ≡ (parts_at old).payload
  unfolding parts_at
  payload-stays =
      ap (λ (k : ℕ). drop k new) stays-before_block.end_is ∙ drop_after start end old new is (header_end old) (omega (arith, past_sources old))

-- bytes that are put there
pub HasHeader-put : (old new xs : List ℕ) (at len : ℕ) (form : Option ExtensionsForm) → new ≡ overwritten old at xs → 0 < at → at + length xs ≤ sources_end old
    → HasHeader old len form → HasHeader new len form
unfolding header_end
HasHeader-put old new xs at len form new-is past within header =
    let ends = header.ends in
    let fits = header.within in
    subst (λ (bytes : List ℕ). HasHeader bytes len form) (sym new-is)
    (HasHeader-stays old (overwritten old at xs) len form
    (stays-before_block at (at + length xs) old (overwritten old at xs) (ChangesOnly-put old xs at (at + length xs) at (omega arith) (omega arith) (omega arith)) past within) header)

-- a change in the body of the block
pub stays-in_body : (old new : List ℕ) → ChangesOnly (sources_end old + 4) (header_end old) old new → StaysLaidOut old new
stays-in_body old new is =
    let start = sources_end old in
    let first = index_before (start + 4) (header_end old) old new is 0 (omega arith) in
    let header : take 4 (drop (sources_end new) new) ≡ take 4 (drop start old) =
    ap (λ (byte : ℕ). take 4 (drop (12 + 4 * (byte % 16)) new)) first ∙ sym (drop-take start 4 new) ∙ ap (drop start) is.before_is ∙ drop-take start 4 old in
    let word : (offset : ℕ) → offset + 2 ≤ 4 → word_at (drop (sources_end new) new) offset ≡ word_at (drop start old) offset =
    λ offset within. sym (word_at-take (drop (sources_end new) new) offset 4 within) ∙ ap (λ (xs : List ℕ). word_at xs offset) header
    ∙ word_at-take (drop start old) offset 4 within in
    stays_by old new is.length_is first (word 0 (omega arith)) (word 2 (omega arith))

-- the parts after a change in the fixed part, by the fields that may change there
pub parts-fixed : (start end : ℕ) (old new : List ℕ) (marker : Bool) (payload_type number timestamp ssrc : ℕ) → ChangesOnly start end old new → 0 < start → end ≤ 12
    → is_set (slice_index new 1) 128 ≡ marker → slice_index new 1 % 128 ≡ payload_type → word_at new 2 ≡ number
    → from_be_bytes w32 (slice_range new 4 8) ≡ timestamp → from_be_bytes w32 (slice_range new 8 12) ≡ ssrc
    → parts_at new ≡ record (parts_at old) { marker = marker; payload_type = payload_type; sequence_number = number; timestamp = timestamp; ssrc = ssrc }
unfolding parts_at
parts-fixed start end old new marker payload_type number timestamp ssrc is past within marker-is type-is number-is timestamp-is ssrc-is =
    let first = index_before start end old new is 0 past in
    same_parts (parts_at new)
    (record (parts_at old) { marker = marker; payload_type = payload_type; sequence_number = number; timestamp = timestamp; ssrc = ssrc })
    (ap (λ (byte : ℕ). is_set byte 32) first) (ap (λ (byte : ℕ). is_set byte 16) first) marker-is type-is number-is timestamp-is ssrc-is
    (ap (λ (byte : ℕ). map (from_be_bytes w32) (first_chunks 4 (byte % 16) (drop 12 new))) first
    ∙ ap (λ (rest : List ℕ). map (from_be_bytes w32) (first_chunks 4 (slice_index old 0 % 16) rest)) (drop_after start end old new is 12 within))
    (block-stays start end old new is past (omega arith)) (other_block-stays start end old new is past (omega arith)) (payload-stays start end old new is past (omega arith))

marker_is_set : (byte : ℕ) (marker : Bool) (payload_type : ℕ) → IsSecondByte byte marker payload_type → is_set byte 128 ≡ marker
marker_is_set byte true payload_type is = let sum = is.sum in let few = is.few in eq-eqb (byte / 128 % 2) 1 (omega arith)
marker_is_set byte false payload_type is = let sum = is.sum in let few = is.few in ne_eqb (byte / 128 % 2) 1 (omega arith)

-- a second byte with another marker, and one with another payload type
pub IsSecondByte-marked : (byte : ℕ) (marker : Bool) → IsSecondByte (bit marker * 128 + bit_and byte 127) marker (byte % 128)
IsSecondByte-marked byte marker =
    let low : bit_and byte 127 ≡ byte % 128 = and_mask byte 7 in
    record { sum = ap (λ (n : ℕ). bit marker * 128 + n) low; few = omega arith }

pub IsSecondByte-typed : (byte payload_type : ℕ) → payload_type ≤ 127 → IsSecondByte (bit_and byte 128 + payload_type) (is_set byte 128) payload_type
IsSecondByte-typed byte payload_type few = record {
  sum = ap (λ (n : ℕ). n + payload_type) (and_pow byte 7 ∙ ap (λ (n : ℕ). n * 128) (sym (bit-is_set byte 128)));
  few = few;
}

-- bytes that are put into the fixed part
pub IsInFixedPart-put : (old xs : List ℕ) (at : ℕ) → at + length xs ≤ 12 → 12 ≤ length old → ChangesOnly at (at + length xs) old (overwritten old at xs)
IsInFixedPart-put old xs at within long = ChangesOnly-put old xs at (at + length xs) at (omega arith) (omega arith) (omega arith)

-- the same of a buffer that was made so
pub only-put : (old new xs : List ℕ) (at end : ℕ) → new ≡ overwritten old at xs → at + length xs ≡ end → end ≤ length old → ChangesOnly at end old new
only-put old new xs at end is end-is fits =
    subst (λ (bytes : List ℕ). ChangesOnly at end old bytes) (sym is) (ChangesOnly-put old xs at end at (omega arith) (omega arith) fits)

-- bytes that are put after the first two: the numbers, by the words that then stand there
parts-numbers : (old xs : List ℕ) (at number timestamp ssrc : ℕ) → 2 ≤ at → at + length xs ≤ 12 → 12 ≤ length old
    → word_at (overwritten old at xs) 2 ≡ number → from_be_bytes w32 (slice_range (overwritten old at xs) 4 8) ≡ timestamp
    → from_be_bytes w32 (slice_range (overwritten old at xs) 8 12) ≡ ssrc
    → parts_at (overwritten old at xs) ≡ record (parts_at old) { sequence_number = number; timestamp = timestamp; ssrc = ssrc }
unfolding parts_at
parts-numbers old xs at number timestamp ssrc past within long number-is timestamp-is ssrc-is =
    let is = IsInFixedPart-put old xs at within long in
    let second = index_before at (at + length xs) old (overwritten old at xs) is 1 past in
    parts-fixed at (at + length xs) old (overwritten old at xs) _ _ number timestamp ssrc is (omega arith) within
    (ap (λ (byte : ℕ). is_set byte 128) second) (ap (λ (byte : ℕ). byte % 128) second) number-is timestamp-is ssrc-is

-- each number that is put in its place
pub parts-number : (old : List ℕ) (number : ℕ) → number < 2 ^ 16 → 12 ≤ length old
    → parts_at (overwritten old 2 (to_be_bytes w16 number)) ≡ record (parts_at old) { sequence_number = number }
unfolding parts_at
parts-number old number fits long =
    let xs = to_be_bytes w16 number in
    let after = range_after 2 4 old (overwritten old 2 xs) (IsInFixedPart-put old xs 2 (omega arith) long) in
    parts-numbers old xs 2 number _ _ (omega arith) (omega arith) long
    (ap (from_be_bytes w16) (range-put old xs 2 4 refl (omega arith)) ∙ from_be_bytes-to_be_bytes_2 number fits)
    (ap (from_be_bytes w32) (after 4 8 (omega arith))) (ap (from_be_bytes w32) (after 8 12 (omega arith)))

pub parts-timestamp : (old : List ℕ) (timestamp : ℕ) → timestamp < 2 ^ 32 → 12 ≤ length old
    → parts_at (overwritten old 4 (to_be_bytes w32 timestamp)) ≡ record (parts_at old) { timestamp = timestamp }
unfolding parts_at
parts-timestamp old timestamp fits long =
    let xs = to_be_bytes w32 timestamp in
    let is = IsInFixedPart-put old xs 4 (omega arith) long in
    parts-numbers old xs 4 _ timestamp _ (omega arith) (omega arith) long
    (ap (from_be_bytes w16) (range_before 4 8 old (overwritten old 4 xs) is 2 4 (omega arith) (omega arith)))
    (ap (from_be_bytes w32) (range-put old xs 4 8 refl (omega arith)) ∙ from_be_bytes-to_be_bytes_4 timestamp fits)
    (ap (from_be_bytes w32) (range_after 4 8 old (overwritten old 4 xs) is 8 12 (omega arith)))

pub parts-ssrc : (old : List ℕ) (ssrc : ℕ) → ssrc < 2 ^ 32 → 12 ≤ length old
    → parts_at (overwritten old 8 (to_be_bytes w32 ssrc)) ≡ record (parts_at old) { ssrc = ssrc }
unfolding parts_at
parts-ssrc old ssrc fits long =
    let xs = to_be_bytes w32 ssrc in
    let before = range_before 8 12 old (overwritten old 8 xs) (IsInFixedPart-put old xs 8 (omega arith) long) in
    parts-numbers old xs 8 _ _ ssrc (omega arith) (omega arith) long
    (ap (from_be_bytes w16) (before 2 4 (omega arith) (omega arith))) (ap (from_be_bytes w32) (before 4 8 (omega arith) (omega arith)))
    (ap (from_be_bytes w32) (range-put old xs 8 12 refl (omega arith)) ∙ from_be_bytes-to_be_bytes_4 ssrc fits)

-- the second byte, by the marker and the payload type in it
pub parts-second : (old : List ℕ) (byte payload_type : ℕ) (marker : Bool) → IsSecondByte byte marker payload_type → 12 ≤ length old
    → parts_at (overwritten old 1 (byte ∷ [])) ≡ record (parts_at old) { marker = marker; payload_type = payload_type }
unfolding parts_at
parts-second old byte payload_type marker is long =
    let xs = byte ∷ [] in
    let put = IsInFixedPart-put old xs 1 (omega arith) long in
    let second = index-put old 1 byte (omega arith) in
    let after = range_after 1 2 old (overwritten old 1 xs) put in
    let fields = fields_from_second byte marker payload_type is in
    parts-fixed 1 2 old (overwritten old 1 xs) marker payload_type _ _ _ put (omega arith) (omega arith)
    (ap (λ (b : ℕ). is_set b 128) second ∙ marker_is_set byte marker payload_type is)
    (ap (λ (b : ℕ). b % 128) second ∙ sym fields.1)
    (ap (from_be_bytes w16) (after 2 4 (omega arith))) (ap (from_be_bytes w32) (after 4 8 (omega arith))) (ap (from_be_bytes w32) (after 8 12 (omega arith)))
