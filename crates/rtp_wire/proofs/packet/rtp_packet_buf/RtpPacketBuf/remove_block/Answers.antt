use Rattle.std.proofs.Common.{refl, arith}
use Rattle.rtp_wire.proofs.PacketLemmas.{one_packet}
use Rattle.rtp_wire.proofs.ReplacedLemmas.{before_payload, payload-within, IsPacket-without, IsKept-without, behind-without}
use Rattle.rtp_wire.proofs.packet.rtp_packet_buf.RtpPacketBuf.remove_block.Goals as goal

pub cut_out-requires-clause-order : goal.cut_out-requires-clause-order
cut_out-requires-clause-order c = before_payload c.args.self.now c.sources_end-block_at.result c.sources_end-block_at.ensures

pub overflow_sub-self : goal.overflow_sub-self
overflow_sub-self c =
    omega (
      arith,
      before_payload c.args.self.now c.sources_end-block_at.result c.sources_end-block_at.ensures,
      payload-within c.args.self.now c.sources_end-block_at.result c.sources_end-block_at.ensures,
    )

pub invariant_of-self : goal.invariant_of-self
invariant_of-self c = IsKept-without c.args.self.now c.sources_end-block_at.result c.sources_end-block_at.ensures c.cut_out.new.buf c.cut_out.ensures _ refl

pub returns-clause-parts : goal.returns-clause-parts
returns-clause-parts c = one_packet _ _ (IsPacket-without c.args.self.now c.sources_end-block_at.result c.sources_end-block_at.ensures c.cut_out.new.buf c.cut_out.ensures _ refl)

pub returns-clause-behind : goal.returns-clause-behind
returns-clause-behind c = behind-without c.args.self.now c.sources_end-block_at.result c.sources_end-block_at.ensures c.cut_out.new.buf c.cut_out.ensures _ refl
