use Rattle.std.proofs.Common.{arith}
use Rattle.rtp_wire.proofs.ChangedPackets.{HasHeader-laid_out}
use Rattle.rtp_wire.proofs.HeaderFound.{kept_by_packet}
use Rattle.rtp_wire.proofs.packet.rtp_packet.RtpPacket.with_layout.Goals as goal

pub invariant_of-result : goal.invariant_of-result
invariant_of-result c =
    kept_by_packet _ _ _ (HasHeader-laid_out c.args.datagram.now c.args.header_len c.args.form c.requires) (λ i. omega (arith, c.type_inv.datagram i))
