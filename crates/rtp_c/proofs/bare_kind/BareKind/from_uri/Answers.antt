use Rattle.std.proofs.Common.{◌≢◌, Option, IfNone, sym, subst}
use Rattle.rtp_c.specs.declared.bare_kind.BareKind.{BareKind}
use Rattle.rtp_c.specs.KindNumbers.{bare_uri}
use Rattle.rtp_c.proofs.KindNumberLemmas.{no_bare_uri}
use Rattle.rtp_c.proofs.bare_kind.BareKind.from_uri.Goals as goal

pub returns-in_err-kind-clause-none : goal.returns-in_err-kind-clause-none
returns-in_err-kind-clause-none c =
    subst (λ (found : Option BareKind). IfNone found ((kind : BareKind) → bare_uri kind ≢ c.args.uri.now)) (sym c.from_residual.ensures)
    (no_bare_uri c.args.uri.now c.as_long.result c.in_err-kind.was c.as_long.ensures)
