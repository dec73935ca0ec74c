use Rattle.std.proofs.Common.{sym, ◌∙◌}
use Rattle.std.proofs.lemmas.Bool.{false≢true}
use Rattle.rtp_c.proofs.GivenValuesLemmas.{CanBeGiven-values}
use Rattle.rtp_c.proofs.given_values.GivenValues.of.Goals as goal

pub returns-then-not-can_be_given-clause-none : goal.returns-then-not-can_be_given-clause-none
returns-then-not-can_be_given-clause-none c values are =
    absurd (false≢true (sym c.if-not-can_be_given.true ∙ c.can_be_given.ensures.1 (CanBeGiven-values c.args.view.now values are)))
