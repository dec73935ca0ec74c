use Rattle.rtp_ext.proofs.Common.{◌≡◌, ◌-◌, ℕ, set, get_or, None, is_some, ap, sym, ◌∙◌, arith, next_id, slots_of, subst}
use Rattle.rtp_ext.proofs.KindsByIdLemmas.{mapped-kind, unmapped-kind}
use Rattle.rtp_ext.proofs.NextIdLemmas.{AreSetFrom, AreSetFrom-start, AreSetFrom-next, AreSetFrom-end, next_id-lower, first-some, first-none}
use Rattle.rtp_ext.proofs.TableLemmas.{slots-long}
use Rattle.rtp_ext.proofs.kinds_by_id.set_next.Goals.{then-is_some, else-is_some}
use Rattle.rtp_ext.proofs.kinds_by_id.set_next.Goals as goal

-- what the first of them gets
first : (c : goal.Joined-is_some) → c.if-is_some.to ≡ next_id (slots_of c.args.kinds.now) (c.from-below.result - 1)
first c = elim c.if-is_some.branch [
  | then-is_some w ↦
      w.to-is ∙ first-some c.args.kinds.now c.args.id None c.told-kinds c.requires.id
      (ap (λ (n : ℕ). is_some (get_or c.args.kinds.now n None)) (sym c.from-below.ensures) ∙ sym w.if-is_some.ensures)
      ∙ ap (λ (n : ℕ). next_id (slots_of c.args.kinds.now) (n - 1)) (sym c.from-below.ensures)
  | else-is_some w ↦
      first-none c.args.kinds.now c.requires.others.0 c.args.next.now c.args.id c.if-is_some.to None c.told-kinds c.requires.id
      (ap (λ (n : ℕ). is_some (get_or c.args.kinds.now n None)) (sym c.from-below.ensures) ∙ sym w.if-is_some.ensures) c.requires.others.1 c.requires.others.2
      (w.to-is ∙ ap (λ (n : ℕ). get_or c.args.next.now n 0) c.from-below.ensures)
      ∙ ap (λ (n : ℕ). next_id (slots_of c.args.kinds.now) (n - 1)) (sym c.from-below.ensures)
]

pub loop-below-init : goal.loop-below-init
loop-below-init c = (
  subst (AreSetFrom (slots_of c.args.kinds.now) c.args.id c.args.next.now c.args.next.now) (sym c.from-below.ensures)
      (AreSetFrom-start (slots_of c.args.kinds.now) c.args.id c.args.next.now),
  λ some. first c,
)

pub returns-then-is_some-2 : goal.returns-then-is_some-2
returns-then-is_some-2 c =
    let below = c.loop-below.below in
    let slots = slots_of c.args.kinds.now in
    let are = c.loop-below.invariant.0 in
    AreSetFrom-end slots c.requires.others.0 c.args.id c.args.next.now (set c.loop-below.next (below - 1) c.if-is_some.to) (below - 1)
    (AreSetFrom-next slots c.args.id c.args.next.now c.loop-below.next below c.if-is_some.to are c.loop-below-test.true
    (c.loop-below.invariant.1 c.loop-below-test.true) (omega (arith, are.low, c.requires.id.1, c.told-next)))
    (λ some. mapped-kind c.args.kinds.now (below - 1) _ some (omega (arith, are.low, c.requires.id.1, c.told-kinds)) (sym c.if-is_some-2.ensures))
    (omega (arith, are.low, c.loop-below-test.true)) (omega (arith, c.told-next, slots-long c.args.kinds.now c.told-kinds)) c.requires.others.1 c.requires.others.2

pub loop-below-preserved : goal.loop-below-preserved
loop-below-preserved c =
    let below = c.loop-below.below in
    let slots = slots_of c.args.kinds.now in
    let are = c.loop-below.invariant.0 in
    let to = c.loop-below.invariant.1 c.loop-below-test.true in (
      AreSetFrom-next slots c.args.id c.args.next.now c.loop-below.next below c.if-is_some.to are c.loop-below-test.true to
          (omega (arith, are.low, c.requires.id.1, c.told-next)),
      λ some. next_id-lower slots (below - 1) c.if-is_some.to some
          (unmapped-kind c.args.kinds.now (below - 1) _ (omega (arith, are.low, c.requires.id.1, c.told-kinds)) (sym c.if-is_some-2.ensures)) to,
    )

pub returns : goal.returns
returns c =
    AreSetFrom-end (slots_of c.args.kinds.now) c.requires.others.0 c.args.id c.args.next.now c.loop-below.next c.loop-below.below c.loop-below.invariant.0
    (λ some. absurd (omega (arith, some, c.loop-below-test.false))) (omega (arith, c.loop-below-test.false, c.requires.id.0))
    (omega (arith, c.told-next, slots-long c.args.kinds.now c.told-kinds)) c.requires.others.1 c.requires.others.2
