use Rattle.rtp_c.proofs.Common.{◌≡◌, arith, refl, ap, inl, inr, ◌∙◌, get_or, rules, cases_lt, or_parts, kind_numbered}
use Rattle.rtp_c.proofs.LongLemmas.{or_false}
use Rattle.rtp_c.proofs.NumberedLemmas.{no_kind_past, no_kind_out}
use Rattle.rtp_c.proofs.numbers.has_kind.Goals as goal

pub loop-number-init : goal.loop-number-init
loop-number-init c = (λ none i below. absurd (omega (arith, below)), λ each. refl)

pub loop-number-preserved : goal.loop-number-preserved
loop-number-preserved c = (
  λ none i below.
      let parts = or_parts c.loop-number.any _ none in
      elim (cases_lt i c.loop-number.number-index) [
        | inl before ↦ c.loop-number.invariant.0 parts.0 i before
        | inr now ↦
            let here : i ≡ c.loop-number.number-index = omega (arith, now, below) in
            ap (λ k. kind_numbered (get_or c.args.numbers.now k 0)) here ∙ no_kind_past (get_or c.args.numbers.now c.loop-number.number-index 0) parts.1
      ],
  λ each.
      or_false _ _ (c.loop-number.invariant.1 (λ i below. each i (omega (arith, below))))
      (no_kind_out (get_or c.args.numbers.now c.loop-number.number-index 0) (search rules) (each c.loop-number.number-index (omega arith))),
)
