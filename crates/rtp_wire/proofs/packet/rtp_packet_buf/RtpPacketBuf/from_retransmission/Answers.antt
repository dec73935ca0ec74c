use Rattle.std.proofs.Common.{arith}
use Rattle.rtp_wire.proofs.PacketBufLemmas.{IsKept-restored}
use Rattle.rtp_wire.proofs.packet.rtp_packet_buf.RtpPacketBuf.from_retransmission.Goals as goal

pub invariant_of-self-2 : goal.invariant_of-self-2
invariant_of-self-2 c =
    IsKept-restored c.args.self.now c.from_retransmission.new.buf _ (omega (arith, c.in_ok-self.ensures.restored.within, c.from_retransmission.auto.buf)) _ _ c.in_ok-self.ensures.restored
