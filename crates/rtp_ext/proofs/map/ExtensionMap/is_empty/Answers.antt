use Rattle.rtp_ext.proofs.Common.{◌↔◌, ◌==◌, subst, eqb-true, eq-eqb, IsTrue, Slots, IsEmpty}
use Rattle.rtp_ext.proofs.WalkLemmas.{IsEmpty-last, last-IsEmpty}
use Rattle.rtp_ext.proofs.map.ExtensionMap.is_empty.Goals as goal

pub returns : goal.returns
returns c =
    subst (λ (slots : Slots). IsTrue (c.self.inside.last == 0) ↔ IsEmpty slots) c.self.view_is (
      λ none. IsEmpty-last c.self.invariant.1 (eqb-true _ _ none),
      λ empty. eq-eqb _ _ (last-IsEmpty c.self.inside.last c.self.invariant.1 empty),
    )
