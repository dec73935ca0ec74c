-- A packet in a buffer whose block gives way to another part, or to none.
use Rattle.std.proofs.Common.{◌≡◌, ℕ, ◌+◌, ◌-◌, ◌*◌, ◌/◌, ◌%◌, ◌<◌, ◌≤◌, Bool, true, false, List, [], ◌∷◌, ◌++◌, length, take, drop, set, get_or, bit_and, Option, Some, None, refl, sym, ap, subst, ◌∙◌, arith, append_assoc, length-append, length-drop, length-take-le, take_at, drop_at}
use Rattle.std.specs.Prelude.{slice_range, option_map, is_some, if◌then◌else◌}
use Rattle.std.specs.List.{concat}
use Rattle.std.specs.Int.{w16, w32, from_be_bytes, to_be_bytes}
use Rattle.std.proofs.lemmas.Nat.{from_be_bytes-to_be_bytes_2}
use Rattle.std.proofs.lemmas.Nat.Bits.{and_pow}
use Rattle.std.proofs.lemmas.List.{length-map, take-append-le, take-take}
use Rattle.std.proofs.lemmas.Option.{none-some}
use lib.Seq.{paste}
use Rattle.rtp_base.specs.Flag.{bit}
use Rattle.rtp_base.specs.Overwriting.{overwritten}
use Rattle.rtp_base.proofs.OverwritingLemmas.{overwritten-overwritten}
use Rattle.rtp_ext.specs.declared.form.ExtensionsForm.{ExtensionsForm}
use Rattle.rtp_ext.specs.Form.{IsFormWord}
use Rattle.rtp_wire.specs.Block.{IsNoFormWord, IsOtherBlock, word_at}
use Rattle.rtp_wire.specs.NotAHeader.{sources_end}
use Rattle.rtp_wire.specs.Packet.{PacketParts, IsFirstByte, IsFixedPart, IsAnnouncedBlock, IsPacket, block_len, header_len_of}
use Rattle.rtp_wire.specs.PutIntoPacket.{form_of_block}
use Rattle.rtp_wire.specs.PartsAt.{form_of_word, has_block, profile_in, parts_at}
use Rattle.rtp_wire.specs.GrowingPacket.{with_extension, with_extension_bit, spliced, block_bytes}
use Rattle.rtp_wire.specs.ReplacedBlock.{with_block}
use Rattle.rtp_wire.proofs.BlockLaidLemmas.{IsBlock-laid}
use Rattle.rtp_wire.proofs.GroupLemmas.{length-concat}
use Rattle.rtp_wire.proofs.PacketLemmas.{IsFormWord-form_of_word, form_of_word-is, one_packet}
use Rattle.rtp_wire.proofs.AnyBlockLemmas.{profile-set}
use Rattle.rtp_wire.proofs.ResizedLemmas.{head_of, length-head, sources_end-is, take-head, payload-here, len-is}

-- ---- X

less-extension_bit : (byte : ℕ) → byte - bit_and byte 16 ≡ byte / 32 * 32 + 0 * 16 + byte % 16
less-extension_bit byte =
    let here : bit_and byte 16 ≡ byte / 16 % 2 * 16 = and_pow byte 4 in
    omega (arith, here)

pub clear-extension_bit : (buf : List ℕ) → 1 ≤ length buf → set buf 0 (get_or buf 0 0 - bit_and (get_or buf 0 0) 16) ≡ with_extension false buf
clear-extension_bit [] none = absurd (omega arith)
clear-extension_bit (first ∷ rest) some = ap (λ (byte : ℕ). byte ∷ rest) (less-extension_bit first)

pub with_extension-bit : (buf : List ℕ) → with_extension_bit buf ≡ with_extension true buf
with_extension-bit [] = refl
with_extension-bit (first ∷ rest) = refl

length-with_extension : (x : Bool) (buf : List ℕ) → length (with_extension x buf) ≡ length buf
length-with_extension x [] = refl
length-with_extension x (first ∷ rest) = refl

with_extension-append : (x : Bool) (xs ys : List ℕ) → 1 ≤ length xs → with_extension x (xs ++ ys) ≡ with_extension x xs ++ ys
with_extension-append x [] ys none = absurd (omega arith)
with_extension-append x (first ∷ rest) ys some = refl

IsFirstByte-with : (x : Bool) (byte : ℕ) (padding extension : Bool) (count : ℕ) → IsFirstByte byte padding extension count → IsFirstByte (byte / 32 * 32 + bit x * 16 + byte % 16) padding x count
IsFirstByte-with false byte false false count is = let sum = is.sum in let few = is.few in record { sum = omega arith; few = omega arith }
IsFirstByte-with false byte false true count is = let sum = is.sum in let few = is.few in record { sum = omega arith; few = omega arith }
IsFirstByte-with false byte true false count is = let sum = is.sum in let few = is.few in record { sum = omega arith; few = omega arith }
IsFirstByte-with false byte true true count is = let sum = is.sum in let few = is.few in record { sum = omega arith; few = omega arith }
IsFirstByte-with true byte false false count is = let sum = is.sum in let few = is.few in record { sum = omega arith; few = omega arith }
IsFirstByte-with true byte false true count is = let sum = is.sum in let few = is.few in record { sum = omega arith; few = omega arith }
IsFirstByte-with true byte true false count is = let sum = is.sum in let few = is.few in record { sum = omega arith; few = omega arith }
IsFirstByte-with true byte true true count is = let sum = is.sum in let few = is.few in record { sum = omega arith; few = omega arith }

pub IsFixedPart-with : (x : Bool) (fixed : List ℕ) (parts : PacketParts) (block : Option (ExtensionsForm × List ℕ)) (other : Option (ℕ × List ℕ)) → IsFixedPart fixed parts
    → IsFixedPart (with_extension x fixed) (record parts { has_extension = x; block = block; other_block = other })
IsFixedPart-with x [] parts block other is = let twelve = is.twelve in absurd (omega arith)
IsFixedPart-with x (first ∷ rest) parts block other is = record {
  twelve = is.twelve;
  first_is = IsFirstByte-with x first parts.has_padding parts.has_extension (length parts.sources) is.first_is;
  second_is = is.second_is;
  number_is = is.number_is;
  timestamp_is = is.timestamp_is;
  ssrc_is = is.ssrc_is;
}

-- ---- the buffer

module _ (buf moved part : List ℕ) (len start end at : ℕ) (order : end ≤ len) (within : len ≤ length buf) (at-is : at ≡ start + length part) (room : start + length part + (len - end) ≤ length buf)
    (moved-is : moved ≡ paste buf at (drop end buf) (len - end)) where
  abbrev payload : List ℕ
  payload = slice_range buf end len

  abbrev rest : List ℕ
  rest = drop (start + length part + (len - end)) buf

  pieces : moved ≡ take at buf ++ (payload ++ rest)
  pieces = moved-is ∙ ap (λ (k : ℕ). take at buf ++ payload ++ drop (k + (len - end)) buf) at-is ∙ append_assoc (take at buf) payload rest

  long : length (take at buf) ≡ at
  long = length-take-le at buf (omega arith)

  pub length-moved : length moved ≡ length buf
  length-moved =
      omega (
        arith,
        ap length pieces,
        long,
        length-append (take at buf) (payload ++ rest),
        length-append payload rest,
        length-take-le (len - end) (drop end buf) (omega (arith, length-drop end buf)),
        length-drop (start + length part + (len - end)) buf,
      )

  pub spliced-put : overwritten moved start part ≡ spliced buf len start end part
  unfolding overwritten spliced
  spliced-put =
      let front : take start moved ≡ take start buf =
      ap (take start) pieces ∙ take-append-le start (take at buf) (payload ++ rest) (omega (arith, long)) ∙ take-take start at buf (omega arith) in
      let after : drop (start + length part) moved ≡ payload ++ rest =
      ap (λ (k : ℕ). drop k moved) (sym at-is) ∙ ap (drop at) pieces ∙ drop_at (take at buf) (payload ++ rest) at long in
      ap (λ (xs : List ℕ). xs ++ (part ++ drop (start + length part) moved)) front ∙ ap (λ (xs : List ℕ). take start buf ++ (part ++ xs)) after

-- the block in three pieces
pub put-block : (moved profile words body : List ℕ) (start second third : ℕ) → length profile ≡ 2 → length words ≡ 2 → second ≡ start + 2 → third ≡ start + 4 → third ≤ length moved
    → overwritten (overwritten (overwritten moved start profile) second words) third body ≡ overwritten moved start (profile ++ (words ++ body))
put-block moved profile words body start second third two also second-is third-is fits =
    ap (λ (bytes : List ℕ). overwritten bytes third body) (overwritten-overwritten moved profile words start second (omega arith) (omega arith))
    ∙ overwritten-overwritten moved (profile ++ words) body start third (omega (arith, length-append profile words)) fits
    ∙ ap (overwritten moved start) (append_assoc profile words body)

-- ---- the packet

module _ (buf : List ℕ) (len : ℕ) (parts : PacketParts) (is : IsPacket (take len buf) parts) (within : len ≤ length buf)
    (block_at : ℕ) (block-is : block_at ≡ sources_end (take len buf)) (payload_at : ℕ) (payload-is : payload_at ≡ header_len_of parts)
    (x : Bool) (part new : List ℕ) (n : ℕ) (n-is : n ≡ block_at + length part + (len - payload_at)) (room : n ≤ length buf)
    (new-is : new ≡ with_extension x (spliced buf len block_at payload_at part)) where
  abbrev behind : List ℕ
  behind = drop (block_at + length part + (len - payload_at)) buf

  abbrev front : List ℕ
  front = with_extension x is.fixed ++ (concat is.groups ++ (part ++ parts.payload))

  twelve : 1 ≤ length is.fixed
  twelve = let t = is.fixed_is.twelve in omega arith

  pub split : new ≡ front ++ behind
  unfolding spliced
  split =
      let head : List ℕ = is.fixed ++ concat is.groups in
      new-is
      ∙ ap (λ (xs : List ℕ). with_extension x (xs ++ (part ++ (slice_range buf payload_at len ++ behind)))) (take-head buf len parts is within block_at block-is)
      ∙ ap (λ (xs : List ℕ). with_extension x (head ++ (part ++ (xs ++ behind)))) (payload-here buf len parts is within block_at block-is payload_at payload-is)
      ∙ ap (with_extension x) (append_assoc is.fixed (concat is.groups) (part ++ (parts.payload ++ behind)))
      ∙ with_extension-append x is.fixed (concat is.groups ++ (part ++ (parts.payload ++ behind))) twelve
      ∙ simp append_assoc

  pub length-front : length front ≡ n
  length-front =
      let number : length is.groups ≡ length parts.sources = sym (ap length is.sources_are.numbers_are ∙ length-map is.groups (from_be_bytes w32)) in
      omega (
        arith,
        n-is,
        payload-is,
        block-is,
        sources_end-is (take len buf) parts is,
        len-is buf len parts is within,
        length-append (with_extension x is.fixed) (concat is.groups ++ (part ++ parts.payload)),
        length-append (concat is.groups) (part ++ parts.payload),
        length-append part parts.payload,
        length-concat is.groups is.sources_are.of_four,
        length-with_extension x is.fixed,
        is.fixed_is.twelve,
        number,
      )

  abbrev pub IsPacket-spliced : (block : Option (ExtensionsForm × List ℕ)) (other : Option (ℕ × List ℕ)) → IsAnnouncedBlock x block other part
      → IsPacket (take n new) (record parts { has_extension = x; block = block; other_block = other })
  IsPacket-spliced block other announced = record {
    fixed = with_extension x is.fixed;
    groups = is.groups;
    part = part;
    in_order = ap (take n) split ∙ take_at front behind n length-front;
    fixed_is = IsFixedPart-with x is.fixed parts block other is.fixed_is;
    sources_are = is.sources_are;
    part_is = announced;
  }

  pub behind-spliced : drop n new ≡ drop n buf
  behind-spliced = ap (drop n) split ∙ drop_at front behind n length-front ∙ ap (λ (k : ℕ). drop k buf) (sym n-is)

  pub length-spliced : length new ≡ length buf
  length-spliced = omega (arith, ap length split, length-append front behind, length-front, length-drop (block_at + length part + (len - payload_at)) buf, n-is)

-- the block that is put
IsOtherBlock-laid : (profile : ℕ) (body : List ℕ) → profile < 65536 → IsNoFormWord profile → length body % 4 ≡ 0 → length body ≤ 262140 → IsOtherBlock (block_bytes profile body) profile body
IsOtherBlock-laid profile body small other whole few =
    let words : List ℕ = to_be_bytes w16 (length body / 4) in
    let word : List ℕ = to_be_bytes w16 profile in
    let first : word_at (block_bytes profile body) 0 ≡ profile = ap (from_be_bytes w16) (take_at word (words ++ body) 2 refl) ∙ from_be_bytes-to_be_bytes_2 profile small in
    let second : word_at (block_bytes profile body) 2 ≡ length body / 4 =
    ap (λ (xs : List ℕ). from_be_bytes w16 (take 2 xs)) (drop_at word (words ++ body) 2 refl) ∙ from_be_bytes-to_be_bytes_2 (length body / 4) (omega arith) in
    let long : length words ≡ 2 = refl in
    record {
      profile_is = sym first;
      no_form = other;
      words = omega (arith, second, length-append word (words ++ body), length-append words body);
      body_is = sym (ap (drop 4) (sym (append_assoc word words body)) ∙ drop_at (word ++ words) body 4 (omega (arith, length-append word words)));
    }

announced-by : (found : Option ExtensionsForm) (profile : ℕ) (body : List ℕ) → form_of_word profile ≡ found → profile < 65536 → length body % 4 ≡ 0 → length body ≤ 262140
    → IsAnnouncedBlock true (option_map (λ (form : ExtensionsForm). (form, body)) found) (if is_some found then None else Some (profile, body)) (block_bytes profile body)
announced-by None profile body found small whole few =
    (refl, refl, IsOtherBlock-laid profile body small (λ form is. absurd (none-some form (sym found ∙ form_of_word-is profile form is))) whole few)
announced-by (Some form) profile body found small whole few =
    IsBlock-laid form (to_be_bytes w16 profile) body refl
    (subst (λ (w : ℕ). IsFormWord w form) (sym (from_be_bytes-to_be_bytes_2 profile small)) (IsFormWord-form_of_word profile form found)) whole few

pub IsAnnouncedBlock-put : (profile : ℕ) (body : List ℕ) → profile < 65536 → length body % 4 ≡ 0 → length body ≤ 262140
    → IsAnnouncedBlock true (option_map (λ (form : ExtensionsForm). (form, body)) (form_of_word profile)) (if is_some (form_of_word profile) then None else Some (profile, body)) (block_bytes profile body)
IsAnnouncedBlock-put profile body small whole few = announced-by (form_of_word profile) profile body refl small whole few

-- ---- what is kept of the packet

lengths-by : (found : Option ExtensionsForm) (profile : ℕ) (body : List ℕ)
    → block_len (option_map (λ (form : ExtensionsForm). (form, body)) found) + block_len (if is_some found then None else Some (profile, body)) ≡ 4 + length body
lengths-by None profile body = omega arith
lengths-by (Some form) profile body = omega arith

pub header_len-block : (profile : ℕ) (body : List ℕ) (parts : PacketParts) → header_len_of (with_block profile body parts) ≡ 12 + 4 * length parts.sources + (4 + length body)
header_len-block profile body parts = omega (arith, lengths-by (form_of_word profile) profile body)

form-by : (found : Option ExtensionsForm) (body : List ℕ) → form_of_block (option_map (λ (form : ExtensionsForm). (form, body)) found) ≡ found
form-by None body = refl
form-by (Some form) body = refl

pub form-block : (profile : ℕ) (body : List ℕ) (parts : PacketParts) → form_of_block (with_block profile body parts).block ≡ form_of_word profile
form-block profile body parts = form-by (form_of_word profile) body

part-here : (bytes : List ℕ) (parts : PacketParts) (is : IsPacket bytes parts) → drop (sources_end bytes) bytes ≡ is.part ++ parts.payload
part-here bytes parts is =
    ap (drop (sources_end bytes)) (is.in_order ∙ sym (append_assoc is.fixed (concat is.groups) (is.part ++ parts.payload)))
    ∙ drop_at (head_of bytes parts is) (is.part ++ parts.payload) (sources_end bytes) (length-head bytes parts is)

-- the 16 bits that the block begins with
x-set : (bytes : List ℕ) (parts : PacketParts) → IsPacket bytes parts → parts.has_extension ≡ true → has_block bytes ≡ true
unfolding parts_at
x-set bytes parts is set = ap (λ (p : PacketParts). p.has_extension) (one_packet bytes parts is) ∙ set

pub profile-put : (bytes : List ℕ) (profile : ℕ) (body : List ℕ) (parts : PacketParts) (is : IsPacket bytes (with_block profile body parts)) → profile < 65536
    → is.part ≡ block_bytes profile body → profile_in bytes ≡ Some profile
profile-put bytes profile body parts is small part-is =
    let x : has_block bytes ≡ true = x-set bytes (with_block profile body parts) is refl in
    let word : word_at (drop (sources_end bytes) bytes) 0 ≡ profile =
    ap (λ (xs : List ℕ). word_at xs 0) (part-here bytes (with_block profile body parts) is ∙ ap (λ (xs : List ℕ). xs ++ parts.payload) part-is)
    ∙ from_be_bytes-to_be_bytes_2 profile small in
    sym (profile-set bytes profile x (sym word))
