use Rattle.rtp_ext.proofs.RenumberingLemmas.{all_but-carries, lost-all_but, unchanged-all_but, AreElements-renumbered}
use Rattle.rtp_ext.proofs.place.remove_element.Goals as goal

pub returns-clause-unchanged : goal.returns-clause-unchanged
returns-clause-unchanged c =
    unchanged-all_but c.args.id c.change_ids.result c.change_ids.ensures.changed c.change_ids.ensures.lost

pub returns-clause-answer : goal.returns-clause-answer
returns-clause-answer c = λ elements are. lost-all_but c.args.id elements c.change_ids.result (c.change_ids.ensures.lost elements are)

pub returns-clause-elements : goal.returns-clause-elements
returns-clause-elements c = λ elements are. AreElements-renumbered c.change_ids.ensures.changed are
    (all_but-carries c.args.form c.args.id elements)
