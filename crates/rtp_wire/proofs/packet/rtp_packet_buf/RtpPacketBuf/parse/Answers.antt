use Rattle.rtp_wire.proofs.ChangedPackets.{HasLayout-read}
use Rattle.rtp_wire.proofs.packet.rtp_packet_buf.RtpPacketBuf.parse.Goals as goal

pub new-requires-clause-layout : goal.new-requires-clause-layout
new-requires-clause-layout c = HasLayout-read c.in_ok-packet.packet _ c.in_ok-packet.ensures.bytes c.in_ok-packet.ensures.found
