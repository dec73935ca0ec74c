use Rattle.rtp_ext.proofs.Common.{rules, ◌≡◌, ◌∷◌, sym, ◌∙◌, elements_left}
use Rattle.rtp_ext.proofs.ElementLemmas.{elements_left-none}
use Rattle.rtp_ext.proofs.FirstElementLemmas.{elements_left-first, elements_left-no_first}
use Rattle.rtp_ext.proofs.elements.ElementsIterator.next.Goals as goal

pub returns-in_default-clause-steps : goal.returns-in_default-clause-steps
returns-in_default-clause-steps c =
    (sym c.self.view_is ∙ elements_left-no_first c.in_default.ensures, elements_left-none c.self.inside.form)

pub returns-clause-steps : goal.returns-clause-steps
returns-clause-steps c = sym c.self.view_is ∙ elements_left-first c.in-Some.ensures

pub returns-clause-goes : goal.returns-clause-goes
returns-clause-goes c =
    let is : c.args.self.now ≡ (c.in-Some.id, c.in-Some.data.now) ∷ elements_left c.self.inside.form c.in-Some.left.now =
    sym c.self.view_is ∙ elements_left-first c.in-Some.ensures in search rules
