use Rattle.std.proofs.Common.{not, refl, ap}
use Rattle.std.proofs.lemmas.Bool.{eqb-true, eq-eqb, not-false}
use Rattle.rtp_c.proofs.NumbersAtOnceLemmas.{none_wanted, wanted_none}
use Rattle.rtp_c.proofs.numbers.has_number.Goals as goal

pub returns : goal.returns
returns c = (
  λ none. none_wanted c.args.numbers.now c.args.wanted _ c.requires refl (eqb-true _ _ (not-false _ none)),
  λ each. ap not (eq-eqb _ _ (wanted_none c.args.numbers.now c.args.wanted _ c.requires refl each)),
)
