use Rattle.rtp_c.proofs.Common.{refl, sym, subst, arith, rules, false≢true, ChangesIds, all_but, PacketParts, AreElementsOf}
use Rattle.rtp_c.proofs.StatusLemmas.{none≢ok}
use Rattle.rtp_c.proofs.ChangeLemmas.{parts-in, BecomesPacket-changed}
use Rattle.rtp_c.proofs.changing.rtpw_remove_element.Goals as goal

pub returns-then-remove_element-clause-removed : goal.returns-then-remove_element-clause-removed
returns-then-remove_element-clause-removed c parts is ok =
    BecomesPacket-changed (λ form. ChangesIds form (all_but c.args.id)) c.args.datagram.now parts c.new-packet.result c.remove_element.new.self _ is
    c.new-packet.ensures.same_bytes c.if-remove_element.ensures.removed (omega (arith, c.type_inv.datagram 1)) (search rules)

pub returns-then-remove_element-clause-answer : goal.returns-then-remove_element-clause-answer
returns-then-remove_element-clause-answer c parts elements is are =
    let same = sym (parts-in c.args.datagram.now parts c.new-packet.result is c.new-packet.ensures.same_bytes) in
    let answer = c.if-remove_element.ensures.answer elements (subst (λ (q : PacketParts). AreElementsOf q.block elements) same are) in
    (λ _. answer.0 refl, λ _. refl)

pub returns-else-remove_element-clause-answer : goal.returns-else-remove_element-clause-answer
returns-else-remove_element-clause-answer c parts elements is are =
    let same = sym (parts-in c.args.datagram.now parts c.new-packet.result is c.new-packet.ensures.same_bytes) in
    let answer = c.if-remove_element.ensures.answer elements (subst (λ (q : PacketParts). AreElementsOf q.block elements) same are) in
    (λ wrong. absurd (none≢ok wrong), λ has. absurd (false≢true (answer.1 has)))

pub returns-in-Err-clause-answer : goal.returns-in-Err-clause-answer
returns-in-Err-clause-answer c parts elements is are = absurd (c.in-Err.ensures.only parts is)

pub returns-in-Err-clause-otherwise : goal.returns-in-Err-clause-otherwise
returns-in-Err-clause-otherwise c parts is not_ok = absurd (c.in-Err.ensures.only parts is)
