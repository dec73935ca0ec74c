use Rattle.rtp_ext.proofs.Common.{All, true, false, IsTrue, ◌↔◌, refl, sym, subst, filter_map, CanRenumber, renumbered, new_id}
use Rattle.rtp_ext.proofs.ElementLemmasOfBodies.{AreElements-only}
use Rattle.rtp_ext.proofs.RenumberingLemmas.{AreElements-renumbered, may-can}
use Rattle.rtp_ext.proofs.RenumberedValuesLemmas.{AreValues-renumbered}
use Rattle.rtp_ext.proofs.place.renumber.Goals as goal

pub returns-then-not-carries_new_ids-clause-answer : goal.returns-then-not-carries_new_ids-clause-answer
returns-then-not-carries_new_ids-clause-answer c = λ elements are.
    subst (λ es. IsTrue false ↔ All (CanRenumber c.args.form (new_id c.args.ids.now)) es) (sym (AreElements-only c.args.form c.args.body.now elements are))
    (c.if-not-carries_new_ids.ensures)

pub change_ids-requires : goal.change_ids-requires
change_ids-requires c = may-can c.args.form (new_id c.args.ids.now) _ (c.carries_new_ids.ensures.0 c.if-not-carries_new_ids.false)

pub returns-clause-answer : goal.returns-clause-answer
returns-clause-answer c = λ elements are.
    subst (λ es. IsTrue true ↔ All (CanRenumber c.args.form (new_id c.args.ids.now)) es) (sym (AreElements-only c.args.form c.args.body.now elements are))
    (c.if-not-carries_new_ids.ensures)

elements_new : goal.returns-clause-elements
elements_new c = λ elements are. AreElements-renumbered c.change_ids.ensures.changed are
    (may-can c.args.form (new_id c.args.ids.now) elements
    (subst (All (CanRenumber c.args.form (new_id c.args.ids.now))) (sym (AreElements-only c.args.form c.args.body.now elements are)) (c.if-not-carries_new_ids.ensures.0 refl)))

pub returns-clause-elements : goal.returns-clause-elements
returns-clause-elements c = elements_new c

pub returns-clause-values : goal.returns-clause-values
returns-clause-values c = λ from to values new says. record {
  elements = filter_map (renumbered (new_id c.args.ids.now)) says.elements;
  are_elements = elements_new c says.elements says.are_elements;
  are_values = AreValues-renumbered from to c.args.ids.now says.elements values new says.are_values;
}
