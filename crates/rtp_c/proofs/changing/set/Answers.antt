use Rattle.rtp_c.proofs.Common.{arith, rules, with_header_fields}
use Rattle.rtp_c.proofs.ChangeLemmas.{IsPacket-set, SetsParts-done, SetsParts-refused}
use Rattle.rtp_c.proofs.changing.set.Goals as goal

pub returns-in-Ok : goal.returns-in-Ok
returns-in-Ok c =
    SetsParts-done (λ none. search rules)
    (λ parts is. IsPacket-set (with_header_fields c.args.fields.now) c.args.datagram.now parts c.new.result c.set_fields.new.self _ is
    c.new.ensures.same_bytes c.set_fields.ensures.parts (omega (arith, c.type_inv.datagram 1)) (search rules)) (λ start end lie. search (rules, c.set_fields.ensures.bytes start end lie))

pub returns-in-Err : goal.returns-in-Err
returns-in-Err c = SetsParts-refused (search rules) (λ parts is. c.in-Err.ensures.only parts is) (search rules) (search rules) (search rules)
