use Rattle.rtp_wire.proofs.PacketBufLemmas.{held, IsKept-front}
use Rattle.rtp_wire.proofs.packet.rtp_packet_buf.RtpPacketBuf.set_element.Goals as goal

pub set_element-requires : goal.set_element-requires
set_element-requires c = held c.args.self.now

pub invariant_of-self : goal.invariant_of-self
invariant_of-self c = IsKept-front c.args.self.now c.set_element.new.datagram c.set_element.auto.datagram c.set_element.ensures.held
