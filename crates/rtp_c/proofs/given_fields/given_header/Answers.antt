use Rattle.rtp_c.proofs.WrittenHeaderLemmas.{IsGivenHeader-with}
use Rattle.rtp_c.proofs.given_fields.given_header.Goals as goal

pub returns-in_err-values-clause-none : goal.returns-in_err-values-clause-none
returns-in_err-values-clause-none c = rw c.from_residual.ensures (λ header is. c.in_err-values.ensures.none header.ext_vals is.values)

pub returns-in_err-fields-clause-none : goal.returns-in_err-fields-clause-none
returns-in_err-fields-clause-none c = rw c.from_residual-in_err-fields.ensures (λ header is. c.in_err-fields.ensures.none header is.fields)

pub returns-clause-found : goal.returns-clause-found
returns-clause-found c = IsGivenHeader-with c.args.view.now c.in_ok-fields.fields c.in_ok-values.values c.in_ok-fields.ensures.found c.in_ok-values.ensures.found
