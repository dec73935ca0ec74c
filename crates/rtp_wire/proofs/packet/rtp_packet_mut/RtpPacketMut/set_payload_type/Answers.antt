use Rattle.rtp_wire.proofs.Common.{ap, refl, arith, ◌∙◌, ◌+◌, bit_and, ℕ, [], ◌∷◌, slice_index, overwritten}
use Rattle.rtp_wire.specs.PartsAt.{parts_at}
use Rattle.rtp_wire.proofs.PacketChanges.{only-put, parts-second, IsSecondByte-typed}
use Rattle.rtp_wire.proofs.packet.rtp_packet_mut.RtpPacketMut.set_payload_type.Goals as goal

pub returns-clause-parts : goal.returns-clause-parts
unfolding parts_at
returns-clause-parts c =
    let old = c.args.self.now in
    let byte = slice_index old.datagram.now 1 in
    ap parts_at (c.put_fixed.ensures.written ∙ ap (λ (low : ℕ). overwritten old.datagram.now 1 ((bit_and byte 128 + low) ∷ [])) c.get.ensures)
    ∙ parts-second old.datagram.now _ c.args.pt _ (IsSecondByte-typed byte c.args.pt c.requires) old.fixed

pub returns-clause-bytes : goal.returns-clause-bytes
returns-clause-bytes c =
    let old = c.args.self.now in
    let fixed = old.fixed in
    only-put old.datagram.now _ _ 1 2 c.put_fixed.ensures.written refl (omega arith)
