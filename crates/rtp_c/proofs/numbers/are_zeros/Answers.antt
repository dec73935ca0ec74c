use Rattle.rtp_c.proofs.Common.{◌≡◌, ℕ, inl, inr, arith, ap, ◌∙◌, subst, get_or, cases_lt, le_or_l, le_or_r}
use Rattle.std.specs.Int.Bits.{or_zero_l}
use Rattle.std.specs.Int.RustNames.{bit_or}
use Rattle.rtp_c.proofs.numbers.are_zeros.Goals as goal

pub loop-number-preserved : goal.loop-number-preserved
loop-number-preserved c =
    let index = c.loop-number.number-index in
    let number = get_or c.args.numbers.now index 0 in (
      λ none i below. elim (cases_lt i index) [
        | inl before ↦ c.loop-number.invariant.0 (omega (arith, none, le_or_l c.loop-number.any number)) i before
        | inr past ↦
            let here : index ≡ i = omega arith in
            subst (λ (k : ℕ). get_or c.args.numbers.now k 0 ≡ 0) here (omega (arith, none, le_or_r c.loop-number.any number))
      ],
      λ zeros.
          ap (λ (any : ℕ). bit_or any number) (c.loop-number.invariant.1 (λ i below. zeros i (omega (arith, below)))) ∙ or_zero_l number ∙ zeros index (omega arith),
    )
