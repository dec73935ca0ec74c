use Rattle.std.proofs.Common.{length, sym, ap, ◌∙◌, arith}
use Rattle.rtp_ext.proofs.ElementLemmas.{without_padding-none, without_padding-other, without_padding-zero}
use Rattle.rtp_ext.proofs.elements.unpadded.Goals as goal

pub returns-in_err-first : goal.returns-in_err-first
returns-in_err-first c = rw c.from_residual.ensures (ap length (without_padding-none _ c.in_err-first.ensures.cases) ∙ c.in_err-first.ensures.cases)

pub returns-then-first-ne0 : goal.returns-then-first-ne0
returns-then-first-ne0 c = (sym (without_padding-other _ _ _ c.in_ok-first.ensures.cases c.if-first-ne0.true), omega (arith, c.in_ok-first.ensures.cases.1))

pub returns-then-ends_in_zeros : goal.returns-then-ends_in_zeros
returns-then-ends_in_zeros c = ap length (without_padding-zero _ _ c.in_ok-first.ensures.cases c.if-first-ne0.false) ∙ c.if-ends_in_zeros.ensures

pub returns-in-empty : goal.returns-in-empty
returns-in-empty c =
    ap length (without_padding-zero _ _ c.in_ok-first.ensures.cases c.if-first-ne0.false) ∙ (ap length (sym c.skip_zeros.ensures) ∙ omega (arith, c.in-empty.len_below))

pub returns-in_default : goal.returns-in_default
returns-in_default c = (
  c.skip_zeros.ensures ∙ sym (without_padding-zero _ _ c.in_ok-first.ensures.cases c.if-first-ne0.false),
  omega (arith, c.in_default.len_at_least),
)
