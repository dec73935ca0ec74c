use Rattle.rtp_wire.proofs.ChangedPackets.{HasHeader-laid_out}
use Rattle.rtp_wire.proofs.packet.rtp_packet_mut.RtpPacketMut.new.Goals as goal

pub invariant_of-result : goal.invariant_of-result
invariant_of-result c = HasHeader-laid_out c.args.datagram.now c.args.header_len c.args.form c.requires
