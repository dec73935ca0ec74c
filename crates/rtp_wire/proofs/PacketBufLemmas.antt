-- A packet in a buffer, and what the buffer keeps of its header: how long it is, and which form its block has.
use Rattle.std.proofs.Common.{◌≡◌, ℕ, zero, suc, ◌+◌, ◌-◌, ◌/◌, ◌<◌, ◌≤◌, true, false, List, ◌++◌, length, take, drop, Option, None, Some, refl, sym, ap, subst, ◌∙◌, arith, length-append, length-drop, length-take-le, take_at}
use Rattle.std.specs.Prelude.{slice_index}
use Rattle.std.specs.Int.{w16, to_be_bytes}
use Rattle.std.proofs.lemmas.List.{take-append-drop, take-append-le, drop-append-le}
use Rattle.rtp_ext.specs.declared.form.ExtensionsForm.{ExtensionsForm}
use Rattle.rtp_ext.specs.Elements.{Element}
use Rattle.rtp_wire.specs.declared.packet.rtp_packet_buf.RtpPacketBuf.{RtpPacketBuf}
use Rattle.rtp_wire.specs.declared.packet.retransmission.RetransmissionFields.{RetransmissionFields}
use Rattle.rtp_wire.specs.declared.packet.retransmission.OriginalFields.{OriginalFields}
use Rattle.rtp_wire.specs.AddedPadding.{with_padding}
use Rattle.rtp_wire.specs.ChangedPacket.{ChangesOnly, HasUnpadded}
use Rattle.rtp_wire.specs.Packet.{PacketParts, IsPacket, header_len_of}
use Rattle.rtp_wire.specs.PacketBuf.{bytes_of, parts_within}
use Rattle.rtp_wire.specs.PartsAt.{HasLayout, form_in, header_end}
use Rattle.rtp_wire.specs.PutIntoPacket.{form_of_block, compact_block, Compacts}
use Rattle.rtp_wire.specs.Retransmission.{IsBlockUnder, Sends, Restores}
use Rattle.rtp_wire.proofs.ChangedPackets.{HasHeader-laid_out, HasLayout-header}
use Rattle.rtp_wire.proofs.HeaderFound.{HasHeader, IsWhole-header}
use Rattle.rtp_wire.proofs.PacketChanges.{StaysLaidOut, HasHeader-stays}
use Rattle.rtp_wire.proofs.PacketLemmas.{IsPacket-whole, one_packet}
use Rattle.rtp_wire.proofs.PaddingChanges.{second_fits}
use Rattle.rtp_wire.proofs.PartsLemmas.{length-packet}

-- the header stays, and so do its length and the form of the block
pub HasLayout-stays : (was is old new : List ℕ) (header_len : ℕ) (form : Option ExtensionsForm) → was ≡ old → is ≡ new → HasLayout old header_len form → StaysLaidOut was is
    → slice_index new 1 < 256 → HasLayout new header_len form
HasLayout-stays was is old new header_len form first last layout stays fits =
    let header : HasHeader new header_len form =
    subst (λ (bytes : List ℕ). HasHeader bytes header_len form) last
    (HasHeader-stays was is header_len form stays (subst (λ (bytes : List ℕ). HasHeader bytes header_len form) (sym first) (HasHeader-laid_out old header_len form layout))) in
    HasLayout-header new header_len form (IsPacket-whole new fits (IsWhole-header new header_len form header)) header

-- what is known of the old and the new bytes
pub moved : (Fact : List ℕ → List ℕ → Type 0) (was is old new : List ℕ) → was ≡ old → is ≡ new → Fact was is → Fact old new
moved Fact was is old new first last fact = subst (Fact old) last (subst (λ (bytes : List ℕ). Fact bytes is) first fact)

-- ---- what a buffer keeps of the packet in its first bytes

abbrev pub IsKept : List ℕ → ℕ → ℕ → Option ExtensionsForm → Type 0
IsKept buf len header_len form = record {
  room : len ≤ length buf;
  fixed : 12 ≤ length (take len buf);
  version : slice_index (take len buf) 0 / 64 ≡ 2;
  second : slice_index (take len buf) 1 < 256;
  announced : form ≡ form_in (take len buf);
  ends : header_len ≡ header_end (take len buf);
  within : header_len ≤ length (take len buf);
}

pub IsKept-laid : (buf : List ℕ) (len header_len : ℕ) (form : Option ExtensionsForm) → len ≤ length buf → HasLayout (take len buf) header_len form → IsKept buf len header_len form
IsKept-laid buf len header_len form room layout =
    let header = HasHeader-laid_out (take len buf) header_len form layout in record {
      room = room;
      fixed = header.fixed;
      version = header.version;
      second = second_fits (take len buf) layout.parts layout.is_packet;
      announced = header.announced;
      ends = header.ends;
      within = header.within;
    }

pub IsKept-parts : (buf : List ℕ) (len header_len : ℕ) (form : Option ExtensionsForm) (parts : PacketParts) → len ≤ length buf → IsPacket (take len buf) parts → header_len ≡ header_len_of parts
    → form ≡ form_of_block parts.block → IsKept buf len header_len form
IsKept-parts buf len header_len form parts room is len-is form-is =
    IsKept-laid buf len header_len form room (record { parts = parts; is_packet = is; form_is = form-is; len_is = omega (arith, len-is, length-packet (take len buf) parts is) })

-- the elements change, or their order, and the form stays
form-compact : (elements : List Element) (block : Option (ExtensionsForm × List ℕ)) → form_of_block (compact_block elements block) ≡ form_of_block block
form-compact elements None = refl
form-compact elements (Some block) = refl

form-under : (ids : ℕ → Option ℕ) (old new : Option (ExtensionsForm × List ℕ)) → IsBlockUnder ids old new → form_of_block new ≡ form_of_block old
form-under ids None new is = ap form_of_block is
form-under ids (Some old) new is = ap form_of_block is.1

header_len-padded : (count : ℕ) (parts : PacketParts) → header_len_of (with_padding count parts) ≡ header_len_of parts
header_len-padded zero parts = refl
header_len-padded (suc count) parts = refl

form-padded : (count : ℕ) (parts : PacketParts) → form_of_block (with_padding count parts).block ≡ form_of_block parts.block
form-padded zero parts = refl
form-padded (suc count) parts = refl

module _ (packet : RtpPacketBuf) where
  pub length-bytes : length (bytes_of packet) ≡ packet.len
  length-bytes = length-take-le packet.len packet.buf.now packet.room

  pub held : HasLayout (bytes_of packet) packet.header_len packet.form
  held =
      let header : HasHeader (bytes_of packet) packet.header_len packet.form =
      record { fixed = packet.fixed; version = packet.version; announced = packet.announced; ends = packet.ends; within = packet.within } in
      HasLayout-header (bytes_of packet) packet.header_len packet.form
      (IsPacket-whole (bytes_of packet) packet.second (IsWhole-header (bytes_of packet) packet.header_len packet.form header)) header

  -- what is kept says of the parts
  pub kept-parts : (parts : PacketParts) → IsPacket (bytes_of packet) parts → (packet.header_len ≡ header_len_of parts) × (packet.form ≡ form_of_block parts.block)
  kept-parts parts is =
      let same : held.parts ≡ parts = sym (one_packet (bytes_of packet) held.parts held.is_packet) ∙ one_packet (bytes_of packet) parts is in (
        omega (arith, held.len_is, ap (λ (p : PacketParts). length p.payload) same, length-packet (bytes_of packet) parts is),
        held.form_is ∙ ap (λ (p : PacketParts). form_of_block p.block) same,
      )

  pub is_packet : IsPacket (bytes_of packet) (parts_within packet)
  is_packet = subst (IsPacket (bytes_of packet)) (sym (one_packet (bytes_of packet) held.parts held.is_packet)) held.is_packet

  -- ---- the packet's bytes change, and the rest stays behind them

  pub IsKept-front : (new : List ℕ) → length new ≡ length (bytes_of packet) → HasLayout new packet.header_len packet.form
      → IsKept (new ++ drop packet.len packet.buf.now) packet.len packet.header_len packet.form
  IsKept-front new length_is layout =
      let rest : List ℕ = drop packet.len packet.buf.now in
      let long : length new ≡ packet.len = length_is ∙ length-bytes in
      IsKept-laid (new ++ rest) packet.len packet.header_len packet.form (omega (arith, long, length-append new rest))
      (subst (λ (bytes : List ℕ). HasLayout bytes packet.header_len packet.form) (sym (take_at new rest packet.len long)) layout)

  module _ (new : List ℕ) (len : ℕ) (fits : len ≤ length new) where
    abbrev whole : List ℕ
    whole = new ++ drop packet.len packet.buf.now

    room-whole : len ≤ length whole
    room-whole = omega (arith, fits, length-append new (drop packet.len packet.buf.now))

    same_front : take len new ≡ take len whole
    same_front = sym (take-append-le len new (drop packet.len packet.buf.now) fits)

    pub IsKept-unpadded : HasUnpadded (parts_within packet) new len → IsKept whole len packet.header_len packet.form
    IsKept-unpadded has =
        let parts : PacketParts = record (parts_within packet) { has_padding = false; payload = has.payload } in
        let kept = kept-parts (parts_within packet) is_packet in
        IsKept-parts whole len packet.header_len packet.form parts room-whole (subst (λ (bytes : List ℕ). IsPacket bytes parts) same_front has.is_packet) kept.0 kept.1

    pub shorter : Compacts (bytes_of packet) new len → packet.len - len ≤ packet.header_len
    shorter has =
        let kept = kept-parts has.parts has.was_packet in
        omega (arith, kept.0, length-packet (bytes_of packet) has.parts has.was_packet, length-bytes, length-packet (take len new) _ has.is_packet, length-take-le len new fits)

    pub IsKept-compact : len ≤ length (bytes_of packet) → Compacts (bytes_of packet) new len → IsKept whole len (packet.header_len - (packet.len - len)) packet.form
    IsKept-compact less has =
        let kept = kept-parts has.parts has.was_packet in
        let parts : PacketParts = record has.parts { block = compact_block has.elements has.parts.block } in
        IsKept-parts whole len (packet.header_len - (packet.len - len)) packet.form parts room-whole (subst (λ (bytes : List ℕ). IsPacket bytes parts) same_front has.is_packet)
        (omega (arith, kept.0, less, length-packet (bytes_of packet) has.parts has.was_packet, length-bytes, length-packet (take len new) parts has.is_packet, length-take-le len new fits))
        (kept.1 ∙ sym (form-compact has.elements has.parts.block))

  -- only the first byte changes
  pub first_changed : (new : List ℕ) → ChangesOnly 0 1 (bytes_of packet) new → ChangesOnly 0 1 packet.buf.now (new ++ drop packet.len packet.buf.now)
  first_changed new only =
      let rest : List ℕ = drop packet.len packet.buf.now in
      let long : length new ≡ length (bytes_of packet) = only.length_is in
      let split : bytes_of packet ++ rest ≡ packet.buf.now = take-append-drop packet.len packet.buf.now in
      let some : 1 ≤ length (bytes_of packet) = omega (arith, length-packet (bytes_of packet) held.parts held.is_packet) in
      record {
        length_is = omega (arith, long, length-append new rest, length-append (bytes_of packet) rest, ap length split);
        before_is = refl;
        after_is =
            drop-append-le 1 new rest (omega (arith, long, some)) ∙ ap (λ (xs : List ℕ). xs ++ rest) only.after_is
            ∙ sym (drop-append-le 1 (bytes_of packet) rest some) ∙ ap (drop 1) split;
      }

  -- ---- the buffer changes

  module _ (buf : List ℕ) (len : ℕ) (room : len ≤ length buf) where
    -- its block is a new one, and the payload stays
    pub IsKept-new : (parts : PacketParts) (form : ExtensionsForm) (body : List ℕ) (header_len : ℕ) → IsPacket (bytes_of packet) parts
        → IsPacket (take len buf) (record parts { has_extension = true; block = Some (form, body) }) → header_len + packet.len ≡ packet.header_len + len → IsKept buf len header_len (Some form)
    IsKept-new parts form body header_len was is longer =
        let new : PacketParts = record parts { has_extension = true; block = Some (form, body) } in
        let kept = kept-parts parts was in
        IsKept-parts buf len header_len (Some form) new room is
        (omega (arith, kept.0, longer, length-packet (bytes_of packet) parts was, length-bytes, length-packet (take len buf) new is, length-take-le len buf room)) refl

    pub IsKept-sent : (stream : RetransmissionFields) (ids : ℕ → Option ℕ) → Sends stream ids packet.buf.now packet.len buf len → IsKept buf len packet.header_len packet.form
    IsKept-sent stream ids has =
        let was = has.becomes in
        let sent = was.fact in
        let kept = kept-parts was.parts was.is_packet in
        let payload : length sent.parts.payload ≡ 2 + length sent.fact.payload =
        ap (λ (p : PacketParts). length p.payload) sent.fact.parts_are ∙ length-append (to_be_bytes w16 was.parts.sequence_number) sent.fact.payload in
        IsKept-parts buf len packet.header_len packet.form sent.parts room sent.is_packet
        (omega (arith, kept.0, payload, length-packet (take len buf) sent.parts sent.is_packet, length-take-le len buf room, has.length_is was.parts sent.fact.payload was.is_packet sent.fact.payload_is))
        (kept.1 ∙ sym (form-under ids was.parts.block sent.parts.block sent.fact.block_is))

    pub IsKept-restored : (stream : OriginalFields) (ids : ℕ → Option ℕ) → Restores stream ids packet.buf.now packet.len buf len → IsKept buf len packet.header_len packet.form
    IsKept-restored stream ids has =
        let was = has.becomes in
        let original = was.fact in
        let kept = kept-parts was.parts was.is_packet in
        let payload : length original.parts.payload ≡ length original.fact.payload - 2 =
        ap (λ (p : PacketParts). length p.payload) original.fact.parts_are ∙ length-drop 2 original.fact.payload in
        let long = original.fact.number_is.long in
        IsKept-parts buf len packet.header_len packet.form original.parts room original.is_packet
        (omega (arith, kept.0, payload, length-packet (take len buf) original.parts original.is_packet, length-take-le len buf room, has.length_is was.parts original.fact.payload was.is_packet original.fact.payload_is))
        (kept.1 ∙ sym (form-under ids was.parts.block original.parts.block original.fact.block_is))

    pub IsKept-padded : (count : ℕ) → IsPacket (bytes_of packet) (parts_within packet) → IsPacket (take len buf) (with_padding count (parts_within packet))
        → IsKept buf len packet.header_len packet.form
    IsKept-padded count was is =
        let kept = kept-parts (parts_within packet) was in
        IsKept-parts buf len packet.header_len packet.form (with_padding count (parts_within packet)) room is
        (kept.0 ∙ sym (header_len-padded count (parts_within packet))) (kept.1 ∙ sym (form-padded count (parts_within packet)))
