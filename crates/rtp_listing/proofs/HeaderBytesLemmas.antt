-- A header is read from the front of a datagram as from all of it.
use Rattle.rtp_listing.proofs.Common.{◌≡◌, ℕ, ◌+◌, ◌-◌, ◌*◌, ◌/◌, ◌%◌, ◌≤◌, List, [], ◌++◌, length, take, drop, Ok, refl, sym, ap, ◌∙◌, subst, arith, append_assoc, append-nil, length-append, length-drop, length-take-le, take-append-drop, get_or-drop, true, false, Option, Some, None, eq-eqb, IsOk, IsAsciiHexdigit, decode_of, ExtensionMap, RtpHeader, IsHeader}
use Rattle.std.specs.Prelude.{min, bit_and, slice_index, slice_range}
use Rattle.std.specs.Int.{w16, from_be_bytes}
use Rattle.std.proofs.lemmas.List.{take_at, take-take, get_or-take, take-append-le, drop-append-le, get_or_append_left}
use Rattle.hex.proofs.HexLemmas.{decode_of-ok, decode_of-same}
use Rattle.rtp_wire.specs.Block.{word_at}
use Rattle.rtp_wire.specs.Header.{IsWire}
use Rattle.rtp_wire.specs.NotAHeader.{sources_end}
use Rattle.rtp_wire.specs.Packet.{PacketParts, IsPacket}
use Rattle.rtp_wire.specs.PartsAt.{has_block, header_end, parts_at}
use Rattle.rtp_wire.proofs.BlockLemmas.{word_at-cells}
use Rattle.rtp_wire.proofs.HeaderFound.{x_clear, x_set}
use Rattle.rtp_wire.proofs.PacketLemmas.{whole_and_parts}
use Rattle.rtp_wire.proofs.PaddingChanges.{IsPacket-front, IsPacket-longer}
use Rattle.rtp_wire.proofs.PartsLemmas.{length-packet}
use Rattle.rtp_listing.specs.HeaderBytes.{HoldsHeader}
use Rattle.rtp_listing.proofs.DecodedLemmas.{decoded-first}
use Rattle.rtp_listing.proofs.HexLineLemmas.{IsOk-digits, digits_from_ok}

-- ---- the header of a front

-- the header and the payload are all bytes
length-wire : (exts : ExtensionMap) (bytes : List ℕ) (h : RtpHeader) (wire : IsWire exts bytes h) → h.header_len + length wire.parts.payload ≡ length bytes
length-wire exts bytes h wire =
    omega (arith, ap (λ (g : RtpHeader). g.header_len) wire.is_header.fields_are, length-packet bytes wire.parts wire.is_packet)

-- a header that bytes begin with, other bytes begin with that are longer
IsWire-longer : (exts : ExtensionMap) (front rest : List ℕ) (h : RtpHeader) → IsWire exts front h → IsWire exts (front ++ rest) h
IsWire-longer exts front rest h wire = record {
  parts = record wire.parts { payload = wire.parts.payload ++ rest };
  is_packet = IsPacket-longer front rest wire.parts wire.is_packet;
  no_other = wire.no_other;
  is_header = record { fields_are = wire.is_header.fields_are; values_are = wire.is_header.values_are };
}

-- and a front that holds it
IsWire-front : (exts : ExtensionMap) (front rest : List ℕ) (h : RtpHeader) → IsWire exts (front ++ rest) h → h.header_len ≤ length front → IsWire exts front h
IsWire-front exts front rest h wire holds =
    let n = length front - h.header_len in
    let payload = wire.parts.payload in
    let all : h.header_len + length payload ≡ length front + length rest = length-wire exts (front ++ rest) h wire ∙ length-append front rest in
    let behind : length front + length (drop n payload) ≡ length (front ++ rest) = omega (arith, all, length-drop n payload, length-append front rest) in
    let is : IsPacket (take (length front) (front ++ rest)) (record wire.parts { payload = take n payload }) =
    IsPacket-front (front ++ rest) wire.parts (take n payload) (drop n payload) (length front) wire.is_packet (sym (take-append-drop n payload)) behind in
    record {
      parts = record wire.parts { payload = take n payload };
      is_packet = subst (λ (bytes : List ℕ). IsPacket bytes (record wire.parts { payload = take n payload })) (take_at front rest (length front) refl) is;
      no_other = wire.no_other;
      is_header = record { fields_are = wire.is_header.fields_are; values_are = wire.is_header.values_are };
    }

-- so the header of the front is that of the datagram
pub IsHeader-front : (exts : ExtensionMap) (datagram front : List ℕ) (header : Option RtpHeader) → HoldsHeader datagram front → IsHeader exts front header → IsHeader exts datagram header
IsHeader-front exts datagram front None holds none = λ h wire.
    none h (IsWire-front exts front holds.rest h (subst (λ (bytes : List ℕ). IsWire exts bytes h) holds.in_order wire) (holds.within exts h wire))
IsHeader-front exts datagram front (Some h) holds wire = subst (λ (bytes : List ℕ). IsWire exts bytes h) (sym holds.in_order) (IsWire-longer exts front holds.rest h wire)

-- ---- how long the header is

-- where it ends
header_end-wire : (exts : ExtensionMap) (bytes : List ℕ) (h : RtpHeader) → IsWire exts bytes h → h.header_len ≡ header_end bytes
unfolding parts_at
header_end-wire exts bytes h wire =
    let found = whole_and_parts bytes wire.parts wire.is_packet in
    let within = found.0.within in
    omega (arith, length-wire exts bytes h wire, ap (λ (p : PacketParts). length p.payload) found.1, length-drop (header_end bytes) bytes)

-- where the first of these bytes says that it ends
pub header_end-clear : (bytes : List ℕ) (start : ℕ) → bit_and (slice_index bytes 0) 16 ≡ 0 → start ≡ sources_end bytes → start ≡ header_end bytes
unfolding header_end
header_end-clear bytes start clear start-is =
    let x : has_block bytes ≡ false = x_clear (slice_index bytes 0) clear in
    rw x (omega (arith, start-is))

pub header_end-set : (bytes : List ℕ) (start : ℕ) → (bit_and (slice_index bytes 0) 16 ≡ 0 → ⊥) → start ≡ sources_end bytes
    → start + 4 + 4 * (slice_index bytes (start + 2) * 256 + slice_index bytes (start + 3)) ≡ header_end bytes
unfolding header_end
header_end-set bytes start set start-is =
    let x : has_block bytes ≡ true = eq-eqb (slice_index bytes 0 / 16 % 2) 1 (x_set (slice_index bytes 0) set) in
    let word : word_at (drop start bytes) 2 ≡ slice_index bytes (start + 2) * 256 + slice_index bytes (start + 3) =
    word_at-cells (drop start bytes) 2 ∙ rw (get_or-drop start bytes 2 0, get_or-drop start bytes 3 0) refl in
    rw (x, ← start-is) (omega (arith, word))

-- the bytes before the body of the block say it
header_end-front : (first after : List ℕ) → 76 ≤ length first → header_end (first ++ after) ≡ header_end first
unfolding header_end
header_end-front first after long =
    let byte : slice_index (first ++ after) 0 ≡ slice_index first 0 = get_or_append_left first after 0 0 (omega arith) in
    let start = sources_end first in
    let rest = drop start first in
    let after-is : drop start (first ++ after) ≡ rest ++ after = drop-append-le start first after (omega arith) in
    let four : 4 ≤ length rest = omega (arith, length-drop start first) in
    let slice : slice_range (rest ++ after) 2 4 ≡ slice_range rest 2 4 =
    ap (take 2) (drop-append-le 2 rest after (omega arith)) ∙ take-append-le 2 (drop 2 rest) after (omega (arith, length-drop 2 rest)) in
    let word : word_at (drop start (first ++ after)) 2 ≡ word_at rest 2 = ap (λ (xs : List ℕ). word_at xs 2) after-is ∙ ap (from_be_bytes w16) slice in
    rw (byte, word) refl

-- ---- the bytes that are decoded

-- a front of an even number of digits decodes
pub IsOk-front : (line : List ℕ) (n : ℕ) → n ≤ length line → n % 2 ≡ 0 → IsOk (decode_of line) → IsOk (decode_of (take n line))
IsOk-front line n within even ok =
    let long : length (take n line) ≡ n = length-take-le n line within in
    let digits = (digits_from_ok line ok).1 in
    IsOk-digits (take n line) (omega (arith, long))
    (λ k d below. subst IsAsciiHexdigit (sym (get_or-take n line k d (omega (arith, long)))) (digits k d (omega (arith, long))))

-- its bytes, two digits a byte
pub decoded-half : (line items : List ℕ) (n : ℕ) → 2 * n ≤ length line → decode_of (take (2 * n) line) ≡ Ok (take (length (take (2 * n) line) / 2) items)
    → decode_of (take (2 * n) line) ≡ Ok (take n items)
decoded-half line items n within is = is ∙ ap (λ (k : ℕ). Ok (take k items)) (omega (arith, length-take-le (2 * n) line within))

-- where all digits are decoded, the header is
pub HoldsHeader-all : (line datagram bytes : List ℕ) → decode_of line ≡ Ok datagram → decode_of line ≡ Ok bytes → HoldsHeader datagram bytes
HoldsHeader-all line datagram bytes all same =
    let front-is : datagram ≡ bytes = decode_of-same line datagram bytes all same in
    record {
      rest = [];
      in_order = front-is ∙ sym (append-nil bytes);
      within = λ exts h wire. omega (arith, length-wire exts datagram h wire, ap length front-is);
    }

-- and where as many are as the first of them say, or all
told : (datagram first after front rest : List ℕ) → datagram ≡ first ++ after → 76 ≤ length first → datagram ≡ front ++ rest
    → length front ≡ min (header_end first) (length datagram) → HoldsHeader datagram front
told datagram first after front rest first-is long front-is len-is = record {
  rest = rest;
  in_order = front-is;
  within = λ exts h wire.
      let end : h.header_len ≡ header_end first = header_end-wire exts datagram h wire ∙ ap header_end first-is ∙ header_end-front first after long in
      omega (arith, end, len-is, length-wire exts datagram h wire);
}

module _ (line datagram items : List ℕ) (n len : ℕ) (all : decode_of line ≡ Ok datagram) (long : 76 ≤ n) (within : 2 * n ≤ length line) (room : n ≤ length items)
    (first : decode_of (take (2 * n) line) ≡ Ok (take (length (take (2 * n) line) / 2) items)) (len-is : len ≡ min (header_end (take n items)) (length line / 2)) where
  bytes_are : length line ≡ 2 * length datagram
  bytes_are = (decode_of-ok line datagram all).2

  first_is : (after : List ℕ) × (datagram ≡ take n items ++ after)
  first_is = decoded-first line datagram (take n items) (2 * n) within (omega arith) all (decoded-half line items n within first)

  first_long : length (take n items) ≡ n
  first_long = length-take-le n items room

  -- they are among the first ones
  pub HoldsHeader-within : len ≤ n → HoldsHeader datagram (take len items)
  HoldsHeader-within few =
      let after = first_is.0 in
      let front : take len (take n items) ≡ take len items = take-take len n items few in
      let split : datagram ≡ take len items ++ (drop len (take n items) ++ after) =
      first_is.1 ∙ ap (λ (xs : List ℕ). xs ++ after) (sym (take-append-drop len (take n items)))
      ∙ append_assoc (take len (take n items)) (drop len (take n items)) after ∙ ap (λ (xs : List ℕ). xs ++ (drop len (take n items) ++ after)) front in
      told datagram (take n items) after (take len items) _ first_is.1 (omega (arith, first_long)) split
      (omega (arith, length-take-le len items (omega (arith, few, room)), len-is, bytes_are))

  -- or are decoded behind these
  pub HoldsHeader-longer : (more : List ℕ) → len ≤ length more → decode_of (take (2 * len) line) ≡ Ok (take (length (take (2 * len) line) / 2) more)
      → HoldsHeader datagram (take len more)
  HoldsHeader-longer more fits second =
      let short : 2 * len ≤ length line = omega (arith, len-is) in
      let front = decoded-first line datagram (take len more) (2 * len) short (omega arith) all (decoded-half line more len short second) in
      told datagram (take n items) first_is.0 (take len more) front.0 first_is.1 (omega (arith, first_long)) front.1
      (omega (arith, length-take-le len more fits, len-is, bytes_are))
