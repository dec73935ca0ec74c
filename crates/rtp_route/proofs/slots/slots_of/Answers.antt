use Rattle.std.proofs.Common.{rules, ◌≡◌, ◌+◌, ◌<◌, List, [], ◌∷◌, ◌++◌, length, take, Some, sym, subst, refl, arith, All}
use Rattle.std.proofs.lemmas.List.{take_more_set}
use Rattle.std.proofs.lemmas.List.Elements.{All-push}
use Rattle.std.proofs.lemmas.Option.{none-some}
use Rattle.rtp_ext.specs.Elements.{Element}
use Rattle.rtp_wire.specs.PartsOf.{parts_of}
use Rattle.rtp_route.specs.declared.slots.Slot.{Slot}
use Rattle.rtp_route.specs.Template.{HasOnly, IsSlot, AreSlots, LiesInHeader, body_start_of}
use Rattle.rtp_route.proofs.ElementAtLemmas.{taken-more, all-at}
use Rattle.rtp_route.proofs.SlotsFound.{slots-push}
use Rattle.rtp_route.proofs.slots.slots_of.Goals as goal

some_slot : (a b : Slot) → Some a ≡ Some b → a ≡ b
some_slot a b same = cc

pub returns-in_err-slots-clause-found : goal.returns-in_err-slots-clause-found
returns-in_err-slots-clause-found g c form row has only =
    let element : Element = (c.at-id.result.0, c.at-id.result.1.now) in
    let found = c.in_err-slots.ensures.found form row element has (all-at (HasOnly row) (g.L.ElementList.elements c.args.elements) c.loop-index.index element only c.at-id.ensures) refl in
    absurd (none-some found.0 found.1)

pub loop-index-preserved : goal.loop-index-preserved
loop-index-preserved g c =
    let elements = g.L.ElementList.elements c.args.elements in
    let k = c.loop-index.index in
    let element : Element = (c.at-id.result.0, c.at-id.result.1.now) in
    let start = body_start_of (parts_of c.args.packet.now) in
    let long : k < length c.loop-index.slots = omega (arith, c.loop-index-test.true, c.loop-index.invariant.1, c.requires) in
    let more = take_more_set c.loop-index.slots k c.in_ok-slots.field-0 long in (
      λ form row has only.
          let found = c.in_ok-slots.ensures.found form row element has (all-at (HasOnly row) elements k element only c.at-id.ensures) refl in
          let same : c.in_ok-slots.field-0 ≡ found.0 = some_slot c.in_ok-slots.field-0 found.0 found.1 in
          subst (λ (slots : List Slot). AreSlots form start row (take (k + 1) elements) slots) (sym more)
          (subst (λ (es : List Element). AreSlots form start row es (take k c.loop-index.slots ++ c.in_ok-slots.field-0 ∷ [])) (sym (taken-more elements k element c.at-id.ensures))
          (slots-push form start row (take k elements) (take k c.loop-index.slots) element c.in_ok-slots.field-0 (c.loop-index.invariant.0 form row has only)
          (subst (λ (slot : Slot). IsSlot form start row element slot) (sym same) found.2))),
      search rules,
      subst (All (LiesInHeader (parts_of c.args.packet.now))) (sym more)
          (All-push (LiesInHeader (parts_of c.args.packet.now)) (take k c.loop-index.slots) c.in_ok-slots.field-0 c.loop-index.invariant.2 c.in_ok-slots.ensures.within),
    )
