use Rattle.std.proofs.Common.{arith}
use Rattle.rtp_wire.proofs.HeaderFound.{HasHeader-packet_mut}
use Rattle.rtp_wire.proofs.PacketChanges.{HasHeader-put}
use Rattle.rtp_wire.proofs.packet.rtp_packet_mut.RtpPacketMut.put_fixed.Goals as goal

pub invariant_of-self : goal.invariant_of-self
invariant_of-self c =
    let old = c.args.self.now in
    HasHeader-put old.datagram.now c.put.new.buf c.args.bytes.now c.args.at old.header_len old.form c.put.ensures.written c.requires.after_first (omega (arith, c.requires.within))
    (HasHeader-packet_mut old)
