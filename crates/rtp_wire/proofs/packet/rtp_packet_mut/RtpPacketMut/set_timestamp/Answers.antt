use Rattle.rtp_wire.proofs.Common.{ap, ◌∙◌, length, arith, overwritten, parts_at}
use Rattle.rtp_wire.proofs.PacketChanges.{only-put, parts-timestamp}
use Rattle.rtp_wire.proofs.packet.rtp_packet_mut.RtpPacketMut.set_timestamp.Goals as goal

pub returns-clause-parts : goal.returns-clause-parts
returns-clause-parts c =
    let old = c.args.self.now in
    ap parts_at (c.put_fixed.ensures.written ∙ ap (overwritten old.datagram.now 4) c.to_be_bytes.ensures)
    ∙ parts-timestamp old.datagram.now c.args.timestamp (omega (arith, c.ranges.timestamp.fits)) old.fixed

pub returns-clause-bytes : goal.returns-clause-bytes
returns-clause-bytes c =
    let old = c.args.self.now in
    let fixed = old.fixed in
    only-put old.datagram.now _ c.to_be_bytes.result 4 8 c.put_fixed.ensures.written (omega (arith, ap length c.to_be_bytes.ensures)) (omega arith)
