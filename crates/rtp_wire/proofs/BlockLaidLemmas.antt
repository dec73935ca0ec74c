-- X is set, and a packet has another block.
use Rattle.rtp_wire.proofs.Common.{◌≡◌, ℕ, ◌+◌, ◌*◌, ◌/◌, ◌%◌, ◌≤◌, Bool, true, false, List, [], ◌∷◌, ◌++◌, length, take, drop, max, set, get_or, bit_or, Option, Some, None, refl, sym, ap, subst, ◌∙◌, arith, append_assoc, length-append, take_at, drop_at, slice_index, concat, w16, w32, from_be_bytes, to_be_bytes, or_shr, or_mod, from_be_bytes-to_be_bytes_2, bit_at_or, length-map, ExtensionsForm, OneByte, TwoByte, IsFormWord, form_word, IsBlock, word_at, PacketParts, IsFirstByte, IsFixedPart, IsAnnouncedBlock, IsPacket, with_extension_bit}
use Rattle.rtp_wire.proofs.GroupLemmas.{length-concat}
use Rattle.rtp_wire.proofs.PaddingLemmas.{or-zero}

-- ---- X

or-extension_bit : (byte : ℕ) → bit_or byte 16 ≡ byte / 32 * 32 + 16 + byte % 16
or-extension_bit byte =
    let high : bit_or byte 16 / 32 ≡ byte / 32 = or_shr byte 16 5 ∙ or-zero (byte / 32) in
    let here : bit_or byte 16 / 16 % 2 ≡ max (byte / 16 % 2) 1 = bit_at_or byte 16 4 in
    let low : bit_or byte 16 % 16 ≡ byte % 16 = or_mod byte 16 4 ∙ or-zero (byte % 16) in
    omega (arith, high, here, low)

pub set-extension_bit : (buf : List ℕ) → 1 ≤ length buf → set buf 0 (bit_or (get_or buf 0 0) 16) ≡ with_extension_bit buf
set-extension_bit [] none = absurd (omega arith)
set-extension_bit (first ∷ rest) some = ap (λ (byte : ℕ). byte ∷ rest) (or-extension_bit first)

pub length-with_extension_bit : (buf : List ℕ) → length (with_extension_bit buf) ≡ length buf
length-with_extension_bit [] = refl
length-with_extension_bit (first ∷ rest) = refl

pub with_extension_bit-append : (xs ys : List ℕ) → 1 ≤ length xs → with_extension_bit (xs ++ ys) ≡ with_extension_bit xs ++ ys
with_extension_bit-append [] ys none = absurd (omega arith)
with_extension_bit-append (first ∷ rest) ys some = refl

IsFirstByte-extended : (byte : ℕ) (padding extension : Bool) (count : ℕ) → IsFirstByte byte padding extension count → IsFirstByte (byte / 32 * 32 + 16 + byte % 16) padding true count
IsFirstByte-extended byte false false count is = let sum = is.sum in let few = is.few in record { sum = omega arith; few = omega arith }
IsFirstByte-extended byte false true count is = let sum = is.sum in let few = is.few in record { sum = omega arith; few = omega arith }
IsFirstByte-extended byte true false count is = let sum = is.sum in let few = is.few in record { sum = omega arith; few = omega arith }
IsFirstByte-extended byte true true count is = let sum = is.sum in let few = is.few in record { sum = omega arith; few = omega arith }

-- a byte that has X already
extended-byte : (byte : ℕ) (padding : Bool) (count : ℕ) → IsFirstByte byte padding true count → byte / 32 * 32 + 16 + byte % 16 ≡ byte
extended-byte byte false count is = let sum = is.sum in let few = is.few in omega arith
extended-byte byte true count is = let sum = is.sum in let few = is.few in omega arith

pub with_extension_bit-same : (buf : List ℕ) (padding : Bool) (count : ℕ) → IsFirstByte (slice_index buf 0) padding true count → with_extension_bit buf ≡ buf
with_extension_bit-same [] padding count first = refl
with_extension_bit-same (byte ∷ rest) padding count first = ap (λ (b : ℕ). b ∷ rest) (extended-byte byte padding count first)

-- the fixed part of a packet with another block
IsFixedPart-extended : (fixed : List ℕ) (parts : PacketParts) (block : Option (ExtensionsForm × List ℕ)) → IsFixedPart fixed parts
    → IsFixedPart (with_extension_bit fixed) (record parts { has_extension = true; block = block })
IsFixedPart-extended [] parts block is = let twelve = is.twelve in absurd (omega arith)
IsFixedPart-extended (first ∷ rest) parts block is = record {
  twelve = is.twelve;
  first_is = IsFirstByte-extended first parts.has_padding parts.has_extension (length parts.sources) is.first_is;
  second_is = is.second_is;
  number_is = is.number_is;
  timestamp_is = is.timestamp_is;
  ssrc_is = is.ssrc_is;
}

-- ---- the block

pub IsFormWord-written : (form : ExtensionsForm) → IsFormWord (from_be_bytes w16 (to_be_bytes w16 (form_word form))) form
IsFormWord-written OneByte = refl
IsFormWord-written TwoByte = (omega arith, omega arith)

-- the word of the form, the number of words, and the body
pub IsBlock-laid : (form : ExtensionsForm) (word body : List ℕ) → length word ≡ 2 → IsFormWord (from_be_bytes w16 word) form → length body % 4 ≡ 0 → length body ≤ 262140
    → IsBlock (word ++ (to_be_bytes w16 (length body / 4) ++ body)) form body
IsBlock-laid form word body two is whole few =
    let words : List ℕ = to_be_bytes w16 (length body / 4) in
    let part : List ℕ = word ++ (words ++ body) in
    let first : word_at part 0 ≡ from_be_bytes w16 word = ap (from_be_bytes w16) (take_at word (words ++ body) 2 two) in
    let second : word_at part 2 ≡ from_be_bytes w16 words = ap (λ (xs : List ℕ). from_be_bytes w16 (take 2 xs)) (drop_at word (words ++ body) 2 two) in
    let number : from_be_bytes w16 words ≡ length body / 4 = from_be_bytes-to_be_bytes_2 (length body / 4) (omega arith) in
    let long : length words ≡ 2 = refl in
    record {
      form_is = subst (λ (w : ℕ). IsFormWord w form) (sym first) is;
      words = omega (arith, second, number, length-append word (words ++ body), length-append words body);
      body_is = sym (ap (drop 4) (sym (append_assoc word words body)) ∙ drop_at (word ++ words) body 4 (omega (arith, length-append word words)));
    }

-- the packet with another block
pub IsPacket-laid : (bytes new rest : List ℕ) (parts : PacketParts) (is : IsPacket bytes parts) (form : ExtensionsForm) (word body : List ℕ) (n : ℕ)
    → parts.other_block ≡ None → length word ≡ 2 → IsFormWord (from_be_bytes w16 word) form → length body % 4 ≡ 0 → length body ≤ 262140
    → new ≡ with_extension_bit (is.fixed ++ concat is.groups) ++ (word ++ (to_be_bytes w16 (length body / 4) ++ (body ++ (parts.payload ++ rest))))
    → n ≡ 12 + 4 * length parts.sources + (4 + length body) + length parts.payload
    → IsPacket (take n new) (record parts { has_extension = true; block = Some (form, body) })
IsPacket-laid bytes new rest parts is form word body n none two is_word whole few new-is n-is =
    let words : List ℕ = to_be_bytes w16 (length body / 4) in
    let groups : List ℕ = concat is.groups in
    let fixed : List ℕ = with_extension_bit is.fixed in
    let part : List ℕ = word ++ (words ++ body) in
    let front : List ℕ = fixed ++ (groups ++ (part ++ parts.payload)) in
    let twelve : length fixed ≡ 12 = length-with_extension_bit is.fixed ∙ is.fixed_is.twelve in
    let split : new ≡ front ++ rest =
    new-is ∙ ap (λ (xs : List ℕ). xs ++ (word ++ (words ++ (body ++ (parts.payload ++ rest))))) (with_extension_bit-append is.fixed groups (let t = is.fixed_is.twelve in omega arith))
    ∙ simp append_assoc in
    let number : length is.groups ≡ length parts.sources = sym (ap length is.sources_are.numbers_are ∙ length-map is.groups (from_be_bytes w32)) in
    let long : length words ≡ 2 = refl in
    let all : length front ≡ n = omega (
      arith,
      n-is,
      length-append fixed (groups ++ (part ++ parts.payload)),
      length-append groups (part ++ parts.payload),
      length-append part parts.payload,
      length-append word (words ++ body),
      length-append words body,
      length-concat is.groups is.sources_are.of_four,
      number,
      twelve,
    ) in
    record {
      fixed = fixed;
      groups = is.groups;
      part = part;
      in_order = ap (take n) split ∙ take_at front rest n all;
      fixed_is = IsFixedPart-extended is.fixed parts (Some (form, body)) is.fixed_is;
      sources_are = is.sources_are;
      part_is = subst (λ (other : Option (ℕ × List ℕ)). IsAnnouncedBlock true (Some (form, body)) other part) (sym none) (IsBlock-laid form word body two is_word whole few);
    }
