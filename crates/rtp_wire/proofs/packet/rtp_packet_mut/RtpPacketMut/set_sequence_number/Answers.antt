use Rattle.rtp_wire.proofs.Common.{ap, ◌∙◌, length, arith, overwritten, parts_at}
use Rattle.rtp_wire.proofs.PacketChanges.{only-put, parts-number}
use Rattle.rtp_wire.proofs.packet.rtp_packet_mut.RtpPacketMut.set_sequence_number.Goals as goal

pub returns-clause-parts : goal.returns-clause-parts
returns-clause-parts c =
    let old = c.args.self.now in
    ap parts_at (c.put_fixed.ensures.written ∙ ap (overwritten old.datagram.now 2) c.to_be_bytes.ensures)
    ∙ parts-number old.datagram.now c.args.number (omega (arith, c.ranges.number.fits)) old.fixed

pub returns-clause-bytes : goal.returns-clause-bytes
returns-clause-bytes c =
    let old = c.args.self.now in
    let fixed = old.fixed in
    only-put old.datagram.now _ c.to_be_bytes.result 2 4 c.put_fixed.ensures.written (omega (arith, ap length c.to_be_bytes.ensures)) (omega arith)
