use Rattle.rtp_c.proofs.Common.{arith, rules, PacketParts}
use Rattle.rtp_c.proofs.ChangeLemmas.{IsPacket-set, SetsParts-done, SetsParts-refused}
use Rattle.rtp_c.proofs.padding.rtpw_set_padding.Goals as goal

pub returns-in-Ok : goal.returns-in-Ok
returns-in-Ok c =
    SetsParts-done (λ none. search rules)
    (λ parts is. IsPacket-set (λ (q : PacketParts). record q { has_padding = c.args.has_padding }) c.args.datagram.now parts c.new-packet.result c.set_padding.new.self _ is
    c.new-packet.ensures.same_bytes c.set_padding.ensures.parts (omega (arith, c.type_inv.datagram 1)) (search rules)) (search rules)

pub returns-in-Err : goal.returns-in-Err
returns-in-Err c = SetsParts-refused (search rules) (λ parts is. c.in-Err.ensures.only parts is) (search rules) (search rules) (search rules)
