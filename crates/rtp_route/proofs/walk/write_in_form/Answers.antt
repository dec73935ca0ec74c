use Rattle.std.specs.Borrow.{Bor}
use Rattle.std.proofs.Common.{rules, ◌≡◌, ◌∙◌, ℕ, List, sym, subst, arith, refl}
use Rattle.std.proofs.lemmas.Iterator.Consumers.{YieldsList-from_first, YieldsList-end}
use Rattle.rtp_ext.specs.Elements.{Element}
use Rattle.rtp_ext.specs.ElementsInARow.{elements_of}
use Rattle.rtp_ext.specs.NewIds.{new_id}
use Rattle.rtp_route.specs.Walk.{AreKept}
use Rattle.rtp_route.proofs.WalkedLemmas.{kept-start, kept-new, kept-none}
use Rattle.rtp_route.proofs.walk.write_in_form.Goals as goal

pub loop-id-init : goal.loop-id-init
loop-id-init g c = (
  tt,
  tt,
  c.requires.room,
  refl,
  search rules,
  kept-start c.args.form (new_id (g.G.GroupTable.ids c.args.group)) (g.G.ElementList.elements c.args.group) c.args.at c.args.buf.now c.args.slots.now c.requires.fresh,
)

pub loop-id-preserved-in-Some-new_id : goal.loop-id-preserved-in-Some-new_id
loop-id-preserved-in-Some-new_id g c =
    let news = g.G.ElementList.elements c.args.group in (
      tt,
      tt,
      omega (arith, c.in_ok-end.ensures.within, c.write_next.auto.buf),
      omega (arith, c.loop-id.invariant.3, c.write_next.auto.buf),
      search rules,
      kept-new c.args.form (new_id (g.G.GroupTable.ids c.args.group)) news c.args.at c.args.buf.now c.loop-id.slots c.write_next.new.slots c.loop-id.buf c.write_next.new.buf c.loop-id.end c.in_ok-end.end
          c.in-Some-new_id.new c.loop-id.yielded (c.in-Some.id, c.in-Some.bytes) c.loop-id.invariant.5 (sym c.new_id.ensures ∙ c.in-Some-new_id.is) c.if-not-carries.ensures
          (λ written is. c.in_ok-end.ensures.written c.args.at c.args.buf.now written c.requires.some is),
    )

pub loop-id-preserved : goal.loop-id-preserved
loop-id-preserved g c = (
  tt,
  tt,
  c.loop-id.invariant.2,
  c.loop-id.invariant.3,
  c.loop-id.invariant.4,
  kept-none c.args.form (new_id (g.G.GroupTable.ids c.args.group)) (g.G.ElementList.elements c.args.group) c.args.at c.args.buf.now c.loop-id.slots c.loop-id.buf c.loop-id.end c.loop-id.yielded
      (c.in-Some.id, c.in-Some.bytes) c.loop-id.invariant.5 (sym c.new_id.ensures ∙ c.in_default.is),
)

pub returns-clause-kept : goal.returns-clause-kept
returns-clause-kept g c elements are =
    let read = (YieldsList-end (YieldsList-from_first (λ (item : ℕ × Bor (List ℕ)). (item.0, item.1.now)) (λ left. left) c.new-id-items.result c.into_iter-id-iterator.ensures.into_iter_gives)
    c.loop-id.yielded _ c.loop-id.yielded_by _ _ c.in-None.is c.next.ensures.steps).0 in
    let all : elements_of c.loop-id.yielded ≡ elements = read ∙ sym (c.new-id-items.ensures.only elements are) in
    subst (λ (es : List Element). AreKept c.args.form (new_id (g.G.GroupTable.ids c.args.group)) (g.G.ElementList.elements c.args.group) es c.args.at c.args.buf.now c.loop-id.slots c.loop-id.buf c.loop-id.end)
    all c.loop-id.invariant.5
