use Rattle.rtp_c.proofs.Common.{sym, subst, refl, IsUtf8}
use Rattle.rtp_c.proofs.KindNumberLemmas.{IsUtf8-uri, numbered≢0}
use Rattle.rtp_c.proofs.map.rtpw_kind_of_uri.Goals as goal

pub returns-in-Err-clause-kind : goal.returns-in-Err-clause-kind
returns-in-Err-clause-kind c kind = (
  λ is. absurd (numbered≢0 kind (sym is)),
  λ is. absurd (c.in-Err.ensures.cases.0 (subst IsUtf8 is (IsUtf8-uri kind))),
)

pub returns-in-Err-clause-none : goal.returns-in-Err-clause-none
returns-in-Err-clause-none c = (λ _ kind is. c.in-Err.ensures.cases.0 (subst IsUtf8 is (IsUtf8-uri kind)), λ _. refl)
