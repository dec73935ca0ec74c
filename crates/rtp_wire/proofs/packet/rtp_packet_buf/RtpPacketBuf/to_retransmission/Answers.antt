use Rattle.std.proofs.Common.{arith}
use Rattle.rtp_wire.proofs.PacketBufLemmas.{IsKept-sent}
use Rattle.rtp_wire.proofs.packet.rtp_packet_buf.RtpPacketBuf.to_retransmission.Goals as goal

pub invariant_of-self-2 : goal.invariant_of-self-2
invariant_of-self-2 c =
    IsKept-sent c.args.self.now c.to_retransmission.new.buf _ (omega (arith, c.in_ok-self.ensures.sent.within, c.to_retransmission.auto.buf)) _ _ c.in_ok-self.ensures.sent
