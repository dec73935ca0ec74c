use Rattle.rtp_c.proofs.Common.{◌<◌, refl, sym, ap, subst, arith, rules, length, set, false≢true, PacketParts}
use Rattle.rtp_c.proofs.ChangeLemmas.{parts-in, IsPacket-set}
use Rattle.rtp_c.proofs.changing.rtpw_set_csrc.Goals as goal

pub returns-then-set_csrc-clause-set : goal.returns-then-set_csrc-clause-set
returns-then-set_csrc-clause-set c parts is done =
    IsPacket-set (λ (q : PacketParts). record q { sources = set q.sources c.args.index c.args.source }) c.args.datagram.now parts c.new.result c.set_csrc.new.self _ is
    c.new.ensures.same_bytes (c.if-set_csrc.ensures.parts refl) (omega (arith, c.type_inv.datagram 1)) (search rules)

pub returns-then-set_csrc-clause-otherwise : goal.returns-then-set_csrc-clause-otherwise
returns-then-set_csrc-clause-otherwise c parts is past =
    let same = parts-in c.args.datagram.now parts c.new.result is c.new.ensures.same_bytes in
    absurd (omega (arith, past, c.if-set_csrc.ensures.found.0 refl, ap (λ (q : PacketParts). length q.sources) same))

pub returns-else-set_csrc-clause-done : goal.returns-else-set_csrc-clause-done
returns-else-set_csrc-clause-done c parts is within =
    let same = sym (parts-in c.args.datagram.now parts c.new.result is c.new.ensures.same_bytes) in
    absurd (false≢true (c.if-set_csrc.ensures.found.1 (subst (λ (q : PacketParts). c.args.index < length q.sources) same within)))

pub returns-in-Err-clause-done : goal.returns-in-Err-clause-done
returns-in-Err-clause-done c parts is within = absurd (c.in-Err.ensures.only parts is)

pub returns-in-Err-clause-otherwise : goal.returns-in-Err-clause-otherwise
returns-in-Err-clause-otherwise c parts is past = absurd (c.in-Err.ensures.only parts is)
