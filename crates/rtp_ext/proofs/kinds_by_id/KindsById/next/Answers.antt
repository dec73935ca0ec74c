use Rattle.rtp_ext.proofs.Common.{rules, [], drop, items_from, slots_of, ◌≡◌}
use Rattle.rtp_ext.proofs.NextIdLemmas.{left-kind, left-no_kind}
use Rattle.rtp_ext.proofs.kinds_by_id.KindsById.next.Goals as goal

pub returns-in_err-self-clause-none : goal.returns-in_err-self-clause-none
returns-in_err-self-clause-none c =
    let none : items_from c.args.id (drop c.args.id (slots_of c.args.self.now)) ≡ [] =
    left-no_kind c.self.inside.kinds c.args.self.now c.self.inside.next c.args.id c.in_ok-next.field-0.now c.from.result c.self.view_is
    c.self.invariant.1 c.self.invariant.2 (c.in_ok-next.ensures.lookup.3.1 0) c.from.ensures c.in_err-self.was in
    search rules

pub returns-clause-some : goal.returns-clause-some
returns-clause-some c =
    left-kind c.self.inside.kinds c.args.self.now c.self.inside.next c.args.id c.in_ok-next.field-0.now c.from.result c.self.view_is
    c.self.invariant.1 c.self.invariant.2 (c.in_ok-next.ensures.lookup.3.1 0) c.from.ensures c.in_ok-self.field-0 c.in_ok-self.was
