use Rattle.rtp_wire.proofs.PacketBufLemmas.{IsKept-laid}
use Rattle.rtp_wire.proofs.packet.rtp_packet_buf.RtpPacketBuf.new.Goals as goal

pub invariant_of-result : goal.invariant_of-result
invariant_of-result c = IsKept-laid c.args.buf.now c.args.len c.args.header_len c.args.form c.requires.room c.requires.layout
