use Rattle.rtp_c.proofs.Common.{refl, sym, subst, arith, rules, false≢true, SetsLast, WritesLast, PacketParts, AreElementsOf}
use Rattle.rtp_c.proofs.StatusLemmas.{none≢ok}
use Rattle.rtp_c.proofs.ChangeLemmas.{parts-in, BecomesPacket-changed}
use Rattle.rtp_c.proofs.changing.rtpw_set_element.Goals as goal

pub returns-then-set_element-clause-set : goal.returns-then-set_element-clause-set
returns-then-set_element-clause-set c parts is ok =
    BecomesPacket-changed (λ form. SetsLast form c.args.id c.args.data.now) c.args.datagram.now parts c.new.result c.set_element.new.self _ is
    c.new.ensures.same_bytes c.if-set_element.ensures.set (omega (arith, c.type_inv.datagram 1)) (search rules)

pub returns-then-set_element-clause-written : goal.returns-then-set_element-clause-written
returns-then-set_element-clause-written c parts is ok =
    BecomesPacket-changed (λ form. WritesLast form c.args.id c.args.data.now) c.args.datagram.now parts c.new.result c.set_element.new.self _ is
    c.new.ensures.same_bytes c.if-set_element.ensures.written (omega (arith, c.type_inv.datagram 1)) (search rules)

pub returns-then-set_element-clause-answer : goal.returns-then-set_element-clause-answer
returns-then-set_element-clause-answer c parts elements is are =
    let same = sym (parts-in c.args.datagram.now parts c.new.result is c.new.ensures.same_bytes) in
    let answer = c.if-set_element.ensures.answer elements (subst (λ (q : PacketParts). AreElementsOf q.block elements) same are) in
    (λ _. answer.0 refl, λ _. refl)

pub returns-else-set_element-clause-answer : goal.returns-else-set_element-clause-answer
returns-else-set_element-clause-answer c parts elements is are =
    let same = sym (parts-in c.args.datagram.now parts c.new.result is c.new.ensures.same_bytes) in
    let answer = c.if-set_element.ensures.answer elements (subst (λ (q : PacketParts). AreElementsOf q.block elements) same are) in
    (λ wrong. absurd (none≢ok wrong), λ has. absurd (false≢true (answer.1 has)))

pub returns-in-Err-clause-answer : goal.returns-in-Err-clause-answer
returns-in-Err-clause-answer c parts elements is are = absurd (c.in-Err.ensures.only parts is)

pub returns-in-Err-clause-otherwise : goal.returns-in-Err-clause-otherwise
returns-in-Err-clause-otherwise c parts is not_ok = absurd (c.in-Err.ensures.only parts is)
