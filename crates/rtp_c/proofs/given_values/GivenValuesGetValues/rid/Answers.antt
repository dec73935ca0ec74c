use Rattle.std.proofs.Common.{ap}
use Rattle.rtp_values.specs.declared.value.values.ExtensionValues.{ExtensionValues}
use Rattle.rtp_c.proofs.GivenLemmas.{weaker_some}
use Rattle.rtp_c.proofs.GivenValuesLemmas.{text-given}
use Rattle.rtp_c.proofs.given_values.GivenValuesGetValues.rid.Goals as goal

pub returns-clause-some : goal.returns-clause-some
returns-clause-some c =
    let view = c.self.inside.view.now in
    weaker_some _ _ c.given_text.result
    (λ text is. text-given 8 view.has_rid view.rid text.now c.args.self.now.rid (ap (λ (values : ExtensionValues). values.rid) c.self.view_is)
    is.0 is.1 (c.self.invariant.rid is.0) is.2)
    c.given_text.ensures.some
