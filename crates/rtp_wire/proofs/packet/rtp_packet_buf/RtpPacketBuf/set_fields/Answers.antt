use Rattle.rtp_wire.proofs.PacketBufLemmas.{held, IsKept-front}
use Rattle.rtp_wire.proofs.packet.rtp_packet_buf.RtpPacketBuf.set_fields.Goals as goal

pub set_fields-requires-clause-held : goal.set_fields-requires-clause-held
set_fields-requires-clause-held c = held c.args.self.now

pub invariant_of-self : goal.invariant_of-self
invariant_of-self c = IsKept-front c.args.self.now c.set_fields.new.datagram c.set_fields.auto.datagram c.set_fields.ensures.held
