use Rattle.rtp_c.proofs.Common.{◌≡◌, sym, ◌∙◌, length, arith, inl, inr, rules, last_end}
use Rattle.rtp_c.proofs.NumberedLemmas.{numbered-pass, numbered-next, numbered-ended}
use Rattle.rtp_c.proofs.WalkLemmas.{last_end-low, last_end-within, walk-over}
use Rattle.rtp_c.proofs.kinds.StoredMapKinds.next.Goals as goal

pub returns-in-Some-clause-some : goal.returns-in-Some-clause-some
returns-in-Some-clause-some c =
    let numbers = c.args.self.now.kind in
    let many : length numbers ≡ 256 = search rules in
    let end = last_end-within c.loop-slot.slots c.loop-slot.invariant.1 in
    c.loop-slot.invariant.0
    ∙ numbered-next numbers (last_end c.loop-slot.slots) c.loop-slot.slot c.in-Some.kind many end.1 (omega (arith, c.if-slot-slots.true, end.0))
    (sym c.in-Some.is ∙ c.kind_numbered-found.ensures)

pub loop-slot-preserved-in_default : goal.loop-slot-preserved-in_default
loop-slot-preserved-in_default c =
    let numbers = c.args.self.now.kind in
    let many : length numbers ≡ 256 = search rules in
    let end = last_end-within c.loop-slot.slots c.loop-slot.invariant.1 in (
      c.loop-slot.invariant.0
          ∙ numbered-pass numbers (last_end c.loop-slot.slots) c.loop-slot.slot c.kind_numbered-found.result many end.1 (omega (arith, c.if-slot-slots.true, end.0))
          c.kind_numbered-found.ensures c.in_default.is,
      c.loop-slot.invariant.1,
      c.loop-slot.invariant.2,
    )

pub loop-slot-preserved : goal.loop-slot-preserved
loop-slot-preserved c =
    let numbers = c.args.self.now.kind in
    let many : length numbers ≡ 256 = search rules in
    let more = c.if-slot-ge-ALL_SLOTS.false in
    let told = c.past_unmapped-slot.ensures in (
      c.loop-slot.invariant.0
          ∙ walk-over numbers c.loop-slot.slots c.min-slots.result c.loop-slot.slot c.past_unmapped-slot.result many more.0
          (omega (arith, c.min-slots.ensures, told.after, c.if-slot-slots.false, more.0)) told.after told.within told.unmapped,
      omega (arith, c.min-slots.ensures),
      c.loop-slot.invariant.2,
    )

pub loop-slot-smaller : goal.loop-slot-smaller
loop-slot-smaller c =
    omega (arith, c.min-slots.ensures, c.past_unmapped-slot.ensures.after, c.past_unmapped-slot.ensures.within, c.if-slot-slots.false, c.if-slot-ge-ALL_SLOTS.false.1, c.loop-slot.invariant.1)

pub returns-then-slot-ge-ALL_SLOTS-clause-none : goal.returns-then-slot-ge-ALL_SLOTS-clause-none
returns-then-slot-ge-ALL_SLOTS-clause-none c =
    c.loop-slot.invariant.0 ∙ numbered-ended c.args.self.now.kind (last_end c.loop-slot.slots) c.loop-slot.slot
    (elim c.if-slot-ge-ALL_SLOTS.either [
      | inl low ↦ omega (arith, last_end-low c.loop-slot.slots low, c.if-slot-slots.false)
      | inr past ↦ omega (arith, (last_end-within c.loop-slot.slots c.loop-slot.invariant.1).1, past.1)
    ])
