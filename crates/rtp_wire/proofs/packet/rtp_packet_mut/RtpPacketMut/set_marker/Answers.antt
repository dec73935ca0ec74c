use Rattle.rtp_wire.proofs.Common.{ap, refl, arith, ◌∙◌, ◌+◌, bit_and, ℕ, [], ◌∷◌, slice_index, overwritten}
use Rattle.rtp_wire.specs.PartsAt.{parts_at}
use Rattle.rtp_wire.proofs.PacketChanges.{only-put, parts-second, IsSecondByte-marked}
use Rattle.rtp_wire.proofs.packet.rtp_packet_mut.RtpPacketMut.set_marker.Goals as goal

pub returns-clause-parts : goal.returns-clause-parts
unfolding parts_at
returns-clause-parts c =
    let old = c.args.self.now in
    let byte = slice_index old.datagram.now 1 in
    ap parts_at (c.put_fixed.ensures.written ∙ ap (λ (high : ℕ). overwritten old.datagram.now 1 ((high + bit_and byte 127) ∷ [])) c.flag.ensures)
    ∙ parts-second old.datagram.now _ _ c.args.marker (IsSecondByte-marked byte c.args.marker) old.fixed

pub returns-clause-bytes : goal.returns-clause-bytes
returns-clause-bytes c =
    let old = c.args.self.now in
    let fixed = old.fixed in
    only-put old.datagram.now _ _ 1 2 c.put_fixed.ensures.written refl (omega arith)
