use Rattle.rtp_wire.proofs.Common.{rules, arith, parts_of}
use Rattle.rtp_wire.proofs.NoHeaderLemmas.{header_there}
use Rattle.rtp_wire.proofs.PacketIdLemmas.{IsPacketId-packet, IsPacketId-none}
use Rattle.rtp_wire.proofs.run.packet_id.Goals as goal

pub returns-in_default : goal.returns-in_default
returns-in_default c = IsPacketId-none c.args.datagram.now (λ parts is known. header_there c.args.datagram.now parts is known (search rules))

pub returns-in-Ok-default-true : goal.returns-in-Ok-default-true
returns-in-Ok-default-true c =
    IsPacketId-packet c.args.datagram.now (parts_of c.in-Ok-default-true.packet) c.ssrc.result c.sequence_number.result (λ i. omega (arith, c.type_inv.datagram i)) c.in-Ok-default-true.ensures.found (c.in-Ok-default-true.ensures.header c.in-Ok-default-true.field-0-1-test) c.ssrc.ensures c.sequence_number.ensures
