use Rattle.std.proofs.Common.{not, ap, arith}
use Rattle.std.proofs.lemmas.Bool.{eqb-true, eq-eqb, not-false}
use Rattle.rtp_listing.proofs.FeedLemmas.{none_more, no_bits}
use Rattle.rtp_listing.proofs.line.ends_soon.Goals as goal

pub returns : goal.returns
returns c = (
  λ none k below. none_more c.args.text.now 0 (omega (arith, c.requires)) (eqb-true _ _ (not-false _ none)) (λ j past. absurd (omega (arith, past))) k (omega (arith, below)),
  λ none. ap not (eq-eqb _ _ (no_bits c.args.text.now 0 (omega (arith, c.requires)) none)),
)
