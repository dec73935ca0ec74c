use Rattle.rtp_wire.proofs.Common.{ap, ◌∙◌, length, arith, ℕ, overwritten, parts_at}
use Rattle.rtp_wire.proofs.PacketChanges.{only-put, parts-ssrc}
use Rattle.rtp_wire.proofs.packet.rtp_packet_mut.RtpPacketMut.set_ssrc.Goals as goal

pub returns-clause-parts : goal.returns-clause-parts
returns-clause-parts c =
    let old = c.args.self.now in
    ap parts_at (c.put_fixed.ensures.written ∙ ap (overwritten old.datagram.now 8) c.to_be_bytes.ensures)
    ∙ parts-ssrc old.datagram.now c.get.result (omega (arith, c.get.type_inv)) old.fixed
    ∙ ap (λ (ssrc : ℕ). record (parts_at old.datagram.now) { ssrc = ssrc }) c.get.ensures

pub returns-clause-bytes : goal.returns-clause-bytes
returns-clause-bytes c =
    let old = c.args.self.now in
    let fixed = old.fixed in
    only-put old.datagram.now _ c.to_be_bytes.result 8 12 c.put_fixed.ensures.written (omega (arith, ap length c.to_be_bytes.ensures)) (omega arith)
