use Rattle.rtp_wire.proofs.PacketBufLemmas.{held, IsKept-front}
use Rattle.rtp_wire.proofs.packet.rtp_packet_buf.RtpPacketBuf.renumber.Goals as goal

pub renumber-requires : goal.renumber-requires
renumber-requires c = held c.args.self.now

pub invariant_of-self : goal.invariant_of-self
invariant_of-self c = IsKept-front c.args.self.now c.renumber.new.datagram c.renumber.auto.datagram c.renumber.ensures.held
