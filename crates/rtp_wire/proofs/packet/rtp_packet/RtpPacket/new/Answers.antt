use Rattle.std.proofs.Common.{arith}
use Rattle.rtp_wire.proofs.HeaderFound.{kept_by_packet}
use Rattle.rtp_wire.proofs.packet.rtp_packet.RtpPacket.new.Goals as goal

pub invariant_of-result : goal.invariant_of-result
invariant_of-result c = kept_by_packet _ _ _ c.requires (λ i. omega (arith, c.type_inv.datagram i))
