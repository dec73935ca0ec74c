-- What `parse` finds of a header step by step, and that the bytes then are whole.
use Rattle.rtp_wire.proofs.Common.{◌≡◌, ℕ, ◌+◌, ◌*◌, ◌/◌, ◌%◌, ◌<◌, ◌≤◌, true, false, List, length, take, drop, Option, Some, None, bit_and, nat_eq, refl, sym, ap, ◌∙◌, subst, arith, length-drop, slice_index, IfSome, eq-eqb, ne_eqb, none-some, and_pow, IsFormWord, ExtensionsForm, RtpPacket, RtpPacketMut, word_at, sources_end}
use Rattle.rtp_wire.specs.PartsAt.{form_of_word, has_block, form_in, header_end}
use Rattle.rtp_wire.proofs.BlockLemmas.{header_word}
use Rattle.rtp_wire.proofs.PacketLemmas.{IsWhole, form_of_word-is, no_form_of_word}

-- X, by its mask
pub x_clear : (byte : ℕ) → bit_and byte 16 ≡ 0 → nat_eq (byte / 16 % 2) 1 ≡ false
x_clear byte none = ne_eqb (byte / 16 % 2) 1 (λ e. absurd (omega (arith, and_pow byte 4)))

pub x_set : (byte : ℕ) → (bit_and byte 16 ≡ 0 → ⊥) → byte / 16 % 2 ≡ 1
x_set byte some = omega (arith, and_pow byte 4, some)

-- a header of this length with a block of this form, or without one: what a packet keeps of its bytes
abbrev pub HasHeader : List ℕ → ℕ → Option ExtensionsForm → Type 0
HasHeader bytes len form = record {
  fixed : 12 ≤ length bytes;
  version : slice_index bytes 0 / 64 ≡ 2;
  announced : form ≡ form_in bytes;
  ends : len ≡ header_end bytes;
  within : len ≤ length bytes;
}

pub HasHeader-packet : (packet : RtpPacket) → HasHeader packet.datagram.now packet.header_len packet.form
HasHeader-packet packet = record { fixed = packet.fixed; version = packet.version; announced = packet.announced; ends = packet.ends; within = packet.within }

pub HasHeader-packet_mut : (packet : RtpPacketMut) → HasHeader packet.datagram.now packet.header_len packet.form
HasHeader-packet_mut packet = record { fixed = packet.fixed; version = packet.version; announced = packet.announced; ends = packet.ends; within = packet.within }

-- the same as a packet keeps it, with the range of its bytes
pub kept_by_packet : (datagram : List ℕ) (len : ℕ) (form : Option ExtensionsForm) → HasHeader datagram len form → ((i : ℕ) → slice_index datagram i < 256) → record {
  bytes : (i : ℕ) → slice_index datagram i < 256;
  fixed : 12 ≤ length datagram;
  version : slice_index datagram 0 / 64 ≡ 2;
  announced : form ≡ form_in datagram;
  ends : len ≡ header_end datagram;
  within : len ≤ length datagram;
}
kept_by_packet datagram len form header fits = record { bytes = fits; fixed = header.fixed; version = header.version; announced = header.announced; ends = header.ends; within = header.within }

pub IsWhole-header : (bytes : List ℕ) (len : ℕ) (form : Option ExtensionsForm) → HasHeader bytes len form → IsWhole bytes
IsWhole-header bytes len form header = record {
  fixed = header.fixed;
  version = header.version;
  within = subst (λ (k : ℕ). k ≤ length bytes) header.ends header.within;
}

pub HasHeader-plain : (bytes : List ℕ) (start : ℕ) → 12 ≤ length bytes → slice_index bytes 0 / 64 ≡ 2 → start ≡ sources_end bytes
    → start ≤ length bytes → bit_and (slice_index bytes 0) 16 ≡ 0 → HasHeader bytes start None
unfolding form_in header_end
HasHeader-plain bytes start long version start-is room clear =
    let x : has_block bytes ≡ false = x_clear (slice_index bytes 0) clear in
    let ends : start ≡ header_end bytes = rw x (omega arith) in
    let announced : None ≡ form_in bytes = rw x refl in
    record {
      fixed = long;
      version = version;
      announced = announced;
      ends = ends;
      within = room;
    }

-- the form that is found of a word
pub found-form_of_word : (word : ℕ) (found : Option ExtensionsForm) → IfSome found (IsFormWord word) → ((form : ExtensionsForm) → IsFormWord word form → found ≡ Some form) → found ≡ form_of_word word
found-form_of_word word None is only = sym (no_form_of_word word (λ form here. none-some form (only form here)))
found-form_of_word word (Some form) is only = sym (form_of_word-is word form is)

pub HasHeader-extended : (bytes after header : List ℕ) (start words : ℕ) (form : Option ExtensionsForm) → 12 ≤ length bytes → slice_index bytes 0 / 64 ≡ 2 → start ≡ sources_end bytes
    → start ≤ length bytes → after ≡ drop start bytes → (bit_and (slice_index bytes 0) 16 ≡ 0 → ⊥) → header ≡ take 4 after
    → form ≡ form_of_word (slice_index header 0 * 256 + slice_index header 1) → words ≡ slice_index header 2 * 256 + slice_index header 3 → 4 + 4 * words ≤ length after
    → HasHeader bytes (start + 4 + 4 * words) form
unfolding form_in header_end
HasHeader-extended bytes after header start words form long version start-is room after-is set header-is form-is words-is fits =
    let x : has_block bytes ≡ true = eq-eqb (slice_index bytes 0 / 16 % 2) 1 (x_set (slice_index bytes 0) set) in
    let same : after ≡ drop (sources_end bytes) bytes = after-is ∙ ap (λ (k : ℕ). drop k bytes) start-is in
    let word : form_of_word (word_at after 0) ≡ form = ap form_of_word (sym (header_word after header 0 header-is (omega arith))) ∙ sym form-is in
    let count : words ≡ word_at after 2 = words-is ∙ header_word after header 2 header-is (omega arith) in
    let announced : form_in bytes ≡ form = rw (x, ← same) word in
    let ends : start + 4 + 4 * words ≡ header_end bytes = rw (x, ← same) (omega arith) in
    let within : start + 4 + 4 * words ≤ length bytes = omega (arith, ap length after-is, length-drop start bytes) in
    record {
      fixed = long;
      version = version;
      announced = sym announced;
      ends = ends;
      within = within;
    }
