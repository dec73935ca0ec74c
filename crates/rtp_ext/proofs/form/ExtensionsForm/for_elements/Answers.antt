use Rattle.rtp_ext.proofs.Common.{rules, ◌≡◌, ◌+◌, drop, refl, sym, subst, arith, false≢true, true≢false, drop_all, ExtensionsForm, Element, form_given, IsWritable, AreWritableIn, AreNotWritableIn}
use Rattle.rtp_ext.proofs.RawWritingLemmas.{left-more}
use Rattle.rtp_ext.proofs.ServingFormLemmas.{AreNotWritableIn-one, AreCounted-step, AreCounted-short, AreCounted-longer, AreCounted-fit, AreNotWritableIn-not}
use Rattle.rtp_ext.proofs.form.ExtensionsForm.for_elements.Goals as goal

pub returns-then-not-can_carry-clause-refused : goal.returns-then-not-can_carry-clause-refused
returns-then-not-can_carry-clause-refused g c = (
  λ _. AreNotWritableIn-one c.args.allowed (g.L.ElementList.elements c.args.elements) c.loop-index.index (c.at-id.result.0, c.at-id.result.1.now) c.args.room c.at-id.ensures
      c.unwrap_or-widest.ensures (λ carried. true≢false (sym (c.if-not-can_carry.ensures.carried.1 carried))) c.if-not-can_carry.ensures.neither,
  λ _. refl,
)

pub returns-in_err-left-clause-refused : goal.returns-in_err-left-clause-refused
returns-in_err-left-clause-refused g c =
    let elements = g.L.ElementList.elements c.args.elements in
    let i = c.loop-index.index in
    let element : Element = (c.at-id.result.0, c.at-id.result.1.now) in (
      λ _. AreCounted-short (drop (i + 1) elements) element
          (left-more elements i element c.at-id.ensures) c.in_err-left.ensures c.loop-index.invariant,
      λ _. search rules,
    )

pub loop-index-preserved : goal.loop-index-preserved
loop-index-preserved g c =
    let elements = g.L.ElementList.elements c.args.elements in
    let i = c.loop-index.index in
    let element : Element = (c.at-id.result.0, c.at-id.result.1.now) in
    AreCounted-step (drop (i + 1) elements) element
    (left-more elements i element c.at-id.ensures) (subst (λ (f : ExtensionsForm). IsWritable f element) c.unwrap_or-widest.ensures (c.if-not-can_carry.ensures.carried.0 refl)) c.form_with-form.ensures c.in_ok-left.ensures.0 c.in_ok-left.ensures.1 c.loop-index.invariant

pub returns-then-left-longer_by-clause-refused : goal.returns-then-left-longer_by-clause-refused
returns-then-left-longer_by-clause-refused g c =
    let elements = g.L.ElementList.elements c.args.elements in (
      λ _. AreCounted-longer c.longer_by.result
          (drop_all c.loop-index.index elements (omega arith)) c.loop-index.invariant
          (c.longer_by.ensures elements (sym c.count-count.ensures)) (λ fits. omega (arith, c.if-left-longer_by.true)),
      λ _. refl,
    )

-- all are counted and fit
all : (g : _) (c : goal.Else-left-longer_by g) → (c.loop-index.form ≡ form_given c.args.allowed (g.L.ElementList.elements c.args.elements))
    × AreWritableIn c.loop-index.form (g.L.ElementList.elements c.args.elements) c.args.room
all g c =
    let elements = g.L.ElementList.elements c.args.elements in
    AreCounted-fit c.longer_by.result (drop_all c.loop-index.index elements (omega arith)) c.loop-index.invariant
    (c.longer_by.ensures elements (sym c.count-count.ensures)) (omega (arith, c.if-left-longer_by.false))

pub returns-clause-refused : goal.returns-clause-refused
returns-clause-refused g c = (
  λ some. absurd (false≢true (sym some)),
  λ cannot. absurd (AreNotWritableIn-not (g.L.ElementList.elements c.args.elements) c.args.room c.loop-index.form (all g c).1
      (subst (λ (f : ExtensionsForm). AreNotWritableIn f (g.L.ElementList.elements c.args.elements) c.args.room) (sym (all g c).0) cannot)),
)

pub returns-clause-form : goal.returns-clause-form
returns-clause-form g c = (all g c).0

pub returns-clause-fit : goal.returns-clause-fit
returns-clause-fit g c = (all g c).1
