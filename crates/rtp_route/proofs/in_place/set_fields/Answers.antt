use Rattle.std.proofs.Common.{arith, rules}
use Rattle.rtp_wire.proofs.BytesBetween.{in_fixed_part}
use Rattle.rtp_route.proofs.ByCallsLemmas.{fields-in, layout-in, only-in}
use Rattle.rtp_route.proofs.in_place.set_fields.Goals as goal

pub returns-clause-set : goal.returns-clause-set
returns-clause-set c parts is =
    fields-in c.args.fields.now c.new-packet.result c.set_fields.new.self c.args.header.now _ parts (omega (arith, c.type_inv.header 1)) c.new-packet.ensures.same_bytes (search rules) is
    c.set_fields.ensures.parts

pub returns-clause-fixed : goal.returns-clause-fixed
returns-clause-fixed c =
    only-in 1 12 c.new-packet.result.datagram.now c.set_fields.new.self.datagram.now _ _ c.new-packet.ensures.same_bytes (search rules)
    (c.set_fields.ensures.bytes 1 12 (in_fixed_part c.args.fields.now))

pub returns-clause-held : goal.returns-clause-held
returns-clause-held c =
    layout-in c.args.fields.now c.new-packet.result c.set_fields.new.self c.args.header.now _ _ (omega (arith, c.type_inv.header 1)) c.new-packet.ensures.same_bytes (search rules)
    c.requires.held c.set_fields.ensures.parts
