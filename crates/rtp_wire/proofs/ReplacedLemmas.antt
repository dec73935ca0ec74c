-- A packet in a buffer whose block is taken off, or gives way to another one: what the buffer then keeps of it.
use Rattle.std.proofs.Common.{◌≡◌, ℕ, ◌+◌, ◌-◌, ◌*◌, ◌%◌, ◌<◌, ◌≤◌, true, false, List, [], length, take, drop, Option, Some, None, refl, sym, ap, ◌∙◌, arith}
use Rattle.std.specs.Prelude.{slice_index}
use Rattle.std.proofs.lemmas.List.{get_or-take}
use Rattle.rtp_ext.specs.declared.form.ExtensionsForm.{ExtensionsForm}
use Rattle.rtp_wire.specs.declared.packet.rtp_packet_buf.RtpPacketBuf.{RtpPacketBuf}
use Rattle.rtp_wire.specs.declared.packet.block_not_put.BlockNotPut.{BlockNotPut}
use Rattle.rtp_wire.specs.declared.packet.block_not_put.BlockNotPut.TheVariants.{CutWord, LongBlock, NoRoom}
use Rattle.rtp_wire.specs.NotAHeader.{sources_end}
use Rattle.rtp_wire.specs.Packet.{IsPacket, header_len_of}
use Rattle.rtp_wire.specs.PacketBuf.{bytes_of, parts_within}
use Rattle.rtp_wire.specs.PartsAt.{form_of_word, profile_in}
use Rattle.rtp_wire.specs.GrowingPacket.{with_extension, spliced, block_bytes}
use Rattle.rtp_wire.specs.ReplacedBlock.{without_block, with_block, KeepsFromBlock, block_place}
use Rattle.rtp_wire.proofs.PacketBufLemmas.{IsKept, IsKept-parts, is_packet, kept-parts, length-bytes}
use Rattle.rtp_wire.proofs.PartsLemmas.{length-packet}
use Rattle.rtp_wire.proofs.ResizedLemmas.{sources_end-is}
use Rattle.rtp_wire.proofs.SplicedLemmas.{IsPacket-spliced, behind-spliced, length-spliced, IsAnnouncedBlock-put, header_len-block, form-block, profile-put}

module _ (packet : RtpPacketBuf) (block_at : ℕ) (block-is : block_at ≡ sources_end packet.buf.now) where
  pub start-is : block_at ≡ sources_end (bytes_of packet)
  start-is =
      let fixed = packet.fixed in
      let first : slice_index (bytes_of packet) 0 ≡ slice_index packet.buf.now 0 = get_or-take packet.len packet.buf.now 0 0 (omega (arith, length-bytes packet)) in
      block-is ∙ ap (λ (byte : ℕ). 12 + 4 * (byte % 16)) (sym first)

  pub payload-is : packet.header_len ≡ header_len_of (parts_within packet)
  payload-is = (kept-parts packet (parts_within packet) (is_packet packet)).0

  sources-is : block_at ≡ 12 + 4 * length (parts_within packet).sources
  sources-is = start-is ∙ sources_end-is (bytes_of packet) (parts_within packet) (is_packet packet)

  pub before_payload : block_at ≤ packet.header_len
  before_payload = omega (arith, payload-is, sources-is)

  pub payload-within : packet.header_len ≤ packet.len
  payload-within = let within = packet.within in omega (arith, length-bytes packet)

  payload-len : length (parts_within packet).payload ≡ packet.len - packet.header_len
  payload-len = omega (arith, payload-is, length-packet (bytes_of packet) (parts_within packet) (is_packet packet), length-bytes packet)

  -- without its block
  module _ (new : List ℕ) (new-is : new ≡ with_extension false (spliced packet.buf.now packet.len block_at packet.header_len [])) (n : ℕ) (n-is : n ≡ packet.len - (packet.header_len - block_at)) where
    size : n ≡ block_at + length {A = ℕ} [] + (packet.len - packet.header_len)
    size = omega (arith, n-is, before_payload, payload-within)

    room : n ≤ length packet.buf.now
    room = let r = packet.room in omega (arith, n-is)

    pub IsPacket-without : IsPacket (take n new) (without_block (parts_within packet))
    IsPacket-without =
        IsPacket-spliced packet.buf.now packet.len (parts_within packet) (is_packet packet) packet.room block_at start-is packet.header_len payload-is false [] new n size room new-is None None refl

    pub IsKept-without : IsKept new n block_at None
    IsKept-without =
        IsKept-parts new n block_at None (without_block (parts_within packet))
        (omega (arith, room, length-spliced packet.buf.now packet.len (parts_within packet) (is_packet packet) packet.room block_at start-is packet.header_len payload-is false [] new n size room new-is))
        IsPacket-without (omega (arith, sources-is)) refl

    pub behind-without : drop n new ≡ drop n packet.buf.now
    behind-without =
        behind-spliced packet.buf.now packet.len (parts_within packet) (is_packet packet) packet.room block_at start-is packet.header_len payload-is false [] new n size room new-is

  -- with another one
  module _ (profile : ℕ) (body : List ℕ) where
    pub needed-is : block_at + 4 + length body + (packet.len - packet.header_len) ≡ 12 + 4 * length (parts_within packet).sources + (4 + length body) + length (parts_within packet).payload
    needed-is = omega (arith, sources-is, payload-len)

    -- none of the causes before the room, where they don't apply, and none at all
    pub none-before : length body % 4 ≡ 0 → length body ≤ 4 * 65535 → (room : ℕ) (cause : BlockNotPut) → block_place cause < 2 → KeepsFromBlock (parts_within packet) body room cause → ⊥
    none-before whole few room CutWord before fact = fact whole
    none-before whole few room LongBlock before fact = omega arith
    none-before whole few room (NoRoom n) before fact = omega arith

    pub none-at-all : length body % 4 ≡ 0 → length body ≤ 4 * 65535 → (room : ℕ) → block_at + 4 + length body + (packet.len - packet.header_len) ≤ room → (cause : BlockNotPut)
        → KeepsFromBlock (parts_within packet) body room cause → ⊥
    none-at-all whole few room fits CutWord fact = fact whole
    none-at-all whole few room fits LongBlock fact = omega arith
    none-at-all whole few room fits (NoRoom n) fact = omega (arith, fact.0, fact.1, needed-is)

    module _ (new : List ℕ) (new-is : new ≡ with_extension true (spliced packet.buf.now packet.len block_at packet.header_len (block_bytes profile body))) (small : profile < 65536)
        (whole : length body % 4 ≡ 0) (few : length body ≤ 4 * 65535) (room : block_at + 4 + length body + (packet.len - packet.header_len) ≤ length packet.buf.now) where
      abbrev n : ℕ
      n = block_at + 4 + length body + (packet.len - packet.header_len)

      pub as-long : n ≡ block_at + length (block_bytes profile body) + (packet.len - packet.header_len)
      as-long = omega arith

      abbrev pub IsPacket-with : IsPacket (take n new) (with_block profile body (parts_within packet))
      IsPacket-with =
          IsPacket-spliced packet.buf.now packet.len (parts_within packet) (is_packet packet) packet.room block_at start-is packet.header_len payload-is true (block_bytes profile body) new n as-long room new-is _ _
          (IsAnnouncedBlock-put profile body small whole few)

      pub IsKept-with : (form : Option ExtensionsForm) → form ≡ form_of_word profile → IsKept new n (block_at + 4 + length body) form
      IsKept-with form form-is =
          IsKept-parts new n (block_at + 4 + length body) form (with_block profile body (parts_within packet))
          (omega (arith, room, length-spliced packet.buf.now packet.len (parts_within packet) (is_packet packet) packet.room block_at start-is packet.header_len payload-is true (block_bytes profile body) new n as-long room new-is))
          IsPacket-with (omega (arith, sources-is, header_len-block profile body (parts_within packet))) (form-is ∙ sym (form-block profile body (parts_within packet)))

      pub behind-with : drop n new ≡ drop n packet.buf.now
      behind-with =
          behind-spliced packet.buf.now packet.len (parts_within packet) (is_packet packet) packet.room block_at start-is packet.header_len payload-is true (block_bytes profile body) new n as-long room new-is

      pub profile-with : profile_in (take n new) ≡ Some profile
      profile-with = profile-put (take n new) profile body (parts_within packet) IsPacket-with small refl
