-- A packet whose padding bit is set or cleared, and the packet without its padding.
use Rattle.rtp_wire.proofs.Common.{◌≡◌, ℕ, ◌+◌, ◌*◌, ◌/◌, ◌%◌, ◌<◌, ◌≤◌, Bool, true, false, List, [], ◌∷◌, ◌++◌, length, map, take, drop, Option, None, refl, sym, ap, subst, ◌∙◌, arith, bit_and, append_assoc, length-append, length-drop, take_at, slice_index, slice_range, Some, is_some, if◌then◌else◌, concat, w16, w32, from_be_bytes, first_chunks, and_mask, append-nil, get_or-take, get_or-drop, bit, overwritten, overwritten-front, ExtensionsForm, word_at, sources_end, RtpPacketMut, PacketParts, IsPacket, IsSecondByte, IsWithoutPadding, parts_in, ChangesOnly, HasUnpadded}
use Rattle.rtp_wire.specs.PartsAt.{is_set, has_block, form_of_word, form_in, profile_in, other_in, header_end, parts_at}
use Rattle.rtp_wire.proofs.FlagLemmas.{bit-once}
use Rattle.rtp_wire.proofs.PacketLemmas.{bit-is_set, same_parts, IsPacket-whole}
use Rattle.rtp_wire.proofs.HeaderFound.{HasHeader, HasHeader-packet_mut, IsWhole-header}
use Rattle.rtp_wire.proofs.BytesBetween.{index-put, drop_after, range_after}
use Rattle.rtp_wire.proofs.PacketChanges.{block_by, only-put}

-- ---- the bit

-- one byte has the version, X and CC of another, and this P
pub record HasPadding (byte new : ℕ) (padding : Bool) : Type 0 where
  pub version_is : new / 64 ≡ 2
  pub padding_is : is_set new 32 ≡ padding
  pub extension_is : is_set new 16 ≡ is_set byte 16
  pub count_is : new % 16 ≡ byte % 16

has_padding : (byte new : ℕ) (padding : Bool) → byte / 64 ≡ 2 → new ≡ 128 + bit padding * 32 + byte % 32 → HasPadding byte new padding
has_padding byte new false version is = record {
  version_is = omega arith;
  padding_is = bit-once (is_set new 32) false (bit-is_set new 32 ∙ omega arith);
  extension_is = bit-once (is_set new 16) (is_set byte 16) (bit-is_set new 16 ∙ omega arith ∙ sym (bit-is_set byte 16));
  count_is = omega arith;
}
has_padding byte new true version is = record {
  version_is = omega arith;
  padding_is = bit-once (is_set new 32) true (bit-is_set new 32 ∙ omega arith);
  extension_is = bit-once (is_set new 16) (is_set byte 16) (bit-is_set new 16 ∙ omega arith ∙ sym (bit-is_set byte 16));
  count_is = omega arith;
}

second_below : (byte : ℕ) (marker : Bool) (payload_type : ℕ) → IsSecondByte byte marker payload_type → byte < 256
second_below byte false payload_type is = let sum = is.sum in let few = is.few in omega arith
second_below byte true payload_type is = let sum = is.sum in let few = is.few in omega arith

overwritten-first : (bytes : List ℕ) (byte : ℕ) → 1 ≤ length bytes → byte ≡ slice_index bytes 0 → overwritten bytes 0 (byte ∷ []) ≡ bytes
overwritten-first [] byte some is = absurd (omega arith)
overwritten-first (first ∷ rest) byte some is = overwritten-front (first ∷ rest) (byte ∷ []) ∙ ap (λ (b : ℕ). b ∷ rest) is

index_after : (old new : List ℕ) → ChangesOnly 0 1 old new → slice_index new 1 ≡ slice_index old 1
index_after old new only =
    sym (get_or-drop 1 new 0 0) ∙ ap (λ (xs : List ℕ). slice_index xs 0) only.after_is ∙ get_or-drop 1 old 0 0

-- a change of the first byte alone, of P
module _ (old new : List ℕ) (padding : Bool) (only : ChangesOnly 0 1 old new) (is : HasPadding (slice_index old 0) (slice_index new 0) padding) where
  sources_end-stays : sources_end new ≡ sources_end old
  sources_end-stays = ap (λ (count : ℕ). 12 + 4 * count) is.count_is

  after-stays : drop (sources_end new) new ≡ drop (sources_end old) old
  after-stays = ap (λ (k : ℕ). drop k new) sources_end-stays ∙ drop_after 0 1 old new only (sources_end old) (omega arith)

  form-stays : form_in new ≡ form_in old
  unfolding form_in
  form-stays =
      ap (λ (x : Bool). if x then form_of_word (word_at (drop (sources_end new) new) 0) else None) is.extension_is
      ∙ ap (λ (xs : List ℕ). if is_set (slice_index old 0) 16 then form_of_word (word_at xs 0) else None) after-stays

  other-stays : other_in new ≡ other_in old
  unfolding other_in profile_in
  other-stays =
      ap (λ (form : Option ExtensionsForm). if is_some form then None else profile_in new) form-stays
      ∙ ap (λ (x : Bool). if is_some (form_in old) then None else (if x then Some (word_at (drop (sources_end new) new) 0) else None)) is.extension_is
      ∙ ap (λ (xs : List ℕ). if is_some (form_in old) then None else (if is_set (slice_index old 0) 16 then Some (word_at xs 0) else None)) after-stays

  end-stays : header_end new ≡ header_end old
  unfolding header_end
  end-stays =
      ap (λ (k : ℕ). k + (if has_block new then 4 + 4 * word_at (drop (sources_end new) new) 2 else 0)) sources_end-stays
      ∙ ap (λ (x : Bool). sources_end old + (if x then 4 + 4 * word_at (drop (sources_end new) new) 2 else 0)) is.extension_is
      ∙ ap (λ (xs : List ℕ). sources_end old + (if has_block old then 4 + 4 * word_at xs 2 else 0)) after-stays

  past_first : 12 ≤ header_end old
  unfolding header_end
  past_first = omega arith

  by-stays : {A : Type 0} (word was : Option A) → word ≡ was
      → block_by word (slice_range new (sources_end new + 4) (header_end new)) ≡ block_by was (slice_range old (sources_end old + 4) (header_end old))
  by-stays {A} word was same =
      ap (λ (k : ℕ). block_by word (slice_range new (k + 4) (header_end new))) sources_end-stays
      ∙ ap (λ (k : ℕ). block_by word (slice_range new (sources_end old + 4) k)) end-stays
      ∙ ap (block_by word) (range_after 0 1 old new only (sources_end old + 4) (header_end old) (omega arith))
      ∙ ap (λ (w : Option A). block_by w (slice_range old (sources_end old + 4) (header_end old))) same

  pub parts-padding : parts_at new ≡ record (parts_at old) { has_padding = padding }
  unfolding parts_at block_by
  parts-padding =
      let second = index_after old new only in
      same_parts (parts_at new) (record (parts_at old) { has_padding = padding })
      is.padding_is is.extension_is
      (ap (λ (byte : ℕ). is_set byte 128) second) (ap (λ (byte : ℕ). byte % 128) second)
      (ap (from_be_bytes w16) (range_after 0 1 old new only 2 4 (omega arith)))
      (ap (from_be_bytes w32) (range_after 0 1 old new only 4 8 (omega arith)))
      (ap (from_be_bytes w32) (range_after 0 1 old new only 8 12 (omega arith)))
      (ap (λ (count : ℕ). map (from_be_bytes w32) (first_chunks 4 count (drop 12 new))) is.count_is
      ∙ ap (λ (rest : List ℕ). map (from_be_bytes w32) (first_chunks 4 (slice_index old 0 % 16) rest)) (drop_after 0 1 old new only 12 (omega arith)))
      (by-stays (form_in new) (form_in old) form-stays) (by-stays (other_in new) (other_in old) other-stays)
      (ap (λ (k : ℕ). drop k new) end-stays ∙ drop_after 0 1 old new only (header_end old) (omega (arith, past_first)))

  pub HasHeader-padding : (len : ℕ) (form : Option ExtensionsForm) → HasHeader old len form → HasHeader new len form
  HasHeader-padding len form header =
      let fixed = header.fixed in
      let within = header.within in
      let length_is = only.length_is in
      record {
        fixed = omega arith;
        version = is.version_is;
        announced = header.announced ∙ sym form-stays;
        ends = header.ends ∙ sym end-stays;
        within = omega arith;
      }

-- the byte that is put there, of this flag
module _ (old new : List ℕ) (flag : ℕ) (padding : Bool) (new-is : new ≡ overwritten old 0 ((128 + flag + bit_and (slice_index old 0) 31) ∷ []))
    (flag-is : flag ≡ bit padding * 32) (version : slice_index old 0 / 64 ≡ 2) (long : 12 ≤ length old) where
  byte : ℕ
  byte = 128 + flag + bit_and (slice_index old 0) 31

  byte-is : byte ≡ 128 + bit padding * 32 + slice_index old 0 % 32
  unfolding byte
  byte-is =
      let low : bit_and (slice_index old 0) 31 ≡ slice_index old 0 % 32 = and_mask (slice_index old 0) 5 in
      omega (arith, flag-is, low)

  pub only-padding : ChangesOnly 0 1 old new
  only-padding = only-put old new _ 0 1 new-is refl (omega arith)

  pub padding-put : HasPadding (slice_index old 0) (slice_index new 0) padding
  unfolding byte
  padding-put =
      has_padding (slice_index old 0) (slice_index new 0) padding version
      (ap (λ (xs : List ℕ). slice_index xs 0) new-is ∙ index-put old 0 byte (omega arith) ∙ byte-is)

  -- the P that was there already
  pub padding-same : (parts_at old).has_padding ≡ padding → new ≡ old
  unfolding parts_at byte
  padding-same same =
      let is : bit padding ≡ slice_index old 0 / 32 % 2 = sym (ap bit same) ∙ bit-is_set (slice_index old 0) 32 in
      new-is ∙ overwritten-first old byte (omega arith) (omega (arith, byte-is, is))

-- ---- the packet without its padding

-- the payload is what is before the padding, if there is any
pub unpadded_front : (has_padding : Bool) (payload front : List ℕ) → IsWithoutPadding has_padding payload front → (padding : List ℕ) × (payload ≡ front ++ padding)
unpadded_front false payload front is = ([], sym is ∙ sym (append-nil front))
unpadded_front true payload front is = (is.padding, is.in_order)

-- the same header with another payload behind it
IsPacket-payload : (bytes new payload : List ℕ) (parts : PacketParts) → (is : IsPacket bytes parts) → new ≡ is.fixed ++ (concat is.groups ++ (is.part ++ payload))
    → IsPacket new (record parts { payload = payload })
IsPacket-payload bytes new payload parts is in_order = record {
  fixed = is.fixed;
  groups = is.groups;
  part = is.part;
  in_order = in_order;
  fixed_is = record {
    twelve = is.fixed_is.twelve;
    first_is = is.fixed_is.first_is;
    second_is = is.fixed_is.second_is;
    number_is = is.fixed_is.number_is;
    timestamp_is = is.fixed_is.timestamp_is;
    ssrc_is = is.fixed_is.ssrc_is;
  };
  sources_are = is.sources_are;
  part_is = is.part_is;
}

-- bytes behind the payload
behind_payload : (fixed groups part payload more : List ℕ) → (fixed ++ (groups ++ (part ++ payload))) ++ more ≡ fixed ++ (groups ++ (part ++ (payload ++ more)))
behind_payload fixed groups part payload more =
    append_assoc fixed (groups ++ (part ++ payload)) more
    ∙ ap (λ (xs : List ℕ). fixed ++ xs) (append_assoc groups (part ++ payload) more)
    ∙ ap (λ (xs : List ℕ). fixed ++ (groups ++ xs)) (append_assoc part payload more)

-- a packet with a shorter payload is the front of its bytes
pub IsPacket-front : (bytes : List ℕ) (parts : PacketParts) (payload padding : List ℕ) (len : ℕ) → IsPacket bytes parts → parts.payload ≡ payload ++ padding
    → len + length padding ≡ length bytes → IsPacket (take len bytes) (record parts { payload = payload })
IsPacket-front bytes parts payload padding len is payload-is len-is =
    let front = is.fixed ++ (concat is.groups ++ (is.part ++ payload)) in
    let split : bytes ≡ front ++ padding =
    is.in_order ∙ ap (λ (xs : List ℕ). is.fixed ++ (concat is.groups ++ (is.part ++ xs))) payload-is ∙ sym (behind_payload is.fixed (concat is.groups) is.part payload padding) in
    let long : length front ≡ len = omega (arith, ap length split, length-append front padding, len-is) in
    IsPacket-payload bytes (take len bytes) payload parts is (ap (take len) split ∙ take_at front padding len long)

-- and bytes behind a packet are behind its payload
pub IsPacket-longer : (bytes more : List ℕ) (parts : PacketParts) → IsPacket bytes parts → IsPacket (bytes ++ more) (record parts { payload = parts.payload ++ more })
IsPacket-longer bytes more parts is =
    IsPacket-payload bytes (bytes ++ more) (parts.payload ++ more) parts is
    (ap (λ (xs : List ℕ). xs ++ more) is.in_order ∙ behind_payload is.fixed (concat is.groups) is.part parts.payload more)

pub second_fits : (bytes : List ℕ) (parts : PacketParts) → IsPacket bytes parts → slice_index bytes 1 < 256
second_fits bytes parts is =
    let fixed : take 12 bytes ≡ is.fixed = ap (take 12) is.in_order ∙ take_at is.fixed _ 12 is.fixed_is.twelve in
    let second : slice_index bytes 1 ≡ slice_index is.fixed 1 = sym (get_or-take 12 bytes 1 0 (omega arith)) ∙ ap (λ (xs : List ℕ). slice_index xs 1) fixed in
    omega (arith, second, second_below (slice_index is.fixed 1) parts.marker parts.payload_type is.fixed_is.second_is)

-- the length of the header and of what is before the padding
pub front_within : (old : RtpPacketMut) (front : List ℕ) → IsWithoutPadding (parts_in old).has_padding (parts_in old).payload front
    → (padding : List ℕ) × ((parts_in old).payload ≡ front ++ padding) × (old.header_len + length front + length padding ≡ length old.datagram.now)
unfolding parts_at
front_within old front is =
    let split = unpadded_front (parts_in old).has_padding (parts_in old).payload front is in
    let within = old.within in
    let ends = old.ends in
    (split.0, split.1, omega (arith, ap length split.1, length-append front split.0, length-drop (header_end old.datagram.now) old.datagram.now))

-- P is cleared, and the front is taken
pub HasUnpadded-cleared : (old new : RtpPacketMut) (front : List ℕ) → IsPacket old.datagram.now (parts_in old) → ChangesOnly 0 1 old.datagram.now new.datagram.now
    → parts_in new ≡ record (parts_in old) { has_padding = false } → IsWithoutPadding (parts_in old).has_padding (parts_in old).payload front
    → HasUnpadded (parts_in old) new.datagram.now (old.header_len + length front)
HasUnpadded-cleared old new front is only cleared without =
    let found = front_within old front without in
    let second-is : slice_index new.datagram.now 1 ≡ slice_index old.datagram.now 1 = index_after old.datagram.now new.datagram.now only in
    let fits : slice_index new.datagram.now 1 < 256 = omega (arith, second-is, second_fits old.datagram.now (parts_in old) is) in
    let whole : IsPacket new.datagram.now (record (parts_in old) { has_padding = false }) =
    subst (λ (parts : PacketParts). IsPacket new.datagram.now parts) cleared
    (IsPacket-whole new.datagram.now fits (IsWhole-header new.datagram.now new.header_len new.form (HasHeader-packet_mut new))) in
    record {
      payload = front;
      payload_is = without;
      is_packet = IsPacket-front new.datagram.now (record (parts_in old) { has_padding = false }) front found.0 (old.header_len + length front) whole found.1
          (omega (arith, found.2, only.length_is));
    }
