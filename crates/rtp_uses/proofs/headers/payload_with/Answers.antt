use Rattle.std.proofs.Common.{Bool, Ok, IsErr, refl, ap, subst}
use Rattle.std.proofs.lemmas.Bool.{false≢true}
use Rattle.rtp_uses.proofs.headers.payload_with.Goals as goal

pub returns-in_err-parse_into-clause-refused : goal.returns-in_err-parse_into-clause-refused
returns-in_err-parse_into-clause-refused c = (
  λ e. absurd (false≢true (subst IsErr e c.from_residual.ensures.0)),
  λ none. absurd (false≢true (subst IsErr (c.in_err-parse_into.ensures.refused.1 none) refl)),
)

pub returns-then-not-branch-clause-refused : goal.returns-then-not-branch-clause-refused
returns-then-not-branch-clause-refused c = (λ _. c.in_ok-parse_into.ensures.refused.0 (ap (λ (found : Bool). Ok found) c.if-not-branch.true), λ _. refl)

pub returns-then-not-branch-clause-same : goal.returns-then-not-branch-clause-same
returns-then-not-branch-clause-same c = c.in_ok-parse_into.ensures.same (c.in_ok-parse_into.ensures.refused.0 (ap (λ (found : Bool). Ok found) c.if-not-branch.true))
