use Rattle.rtp_wire.proofs.PacketBufLemmas.{held, IsKept-front}
use Rattle.rtp_wire.proofs.packet.rtp_packet_buf.RtpPacketBuf.remove_element.Goals as goal

pub remove_element-requires : goal.remove_element-requires
remove_element-requires c = held c.args.self.now

pub invariant_of-self : goal.invariant_of-self
invariant_of-self c = IsKept-front c.args.self.now c.remove_element.new.datagram c.remove_element.auto.datagram c.remove_element.ensures.held
