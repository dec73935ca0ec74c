use Rattle.rtp_base.proofs.Common.{ℕ, ◌∙◌, ap, sym, arith, replicate, inl, inr, cases_lt}
use Rattle.rtp_base.proofs.RingLemmas.{ring_bit-zeros, cleared-before}
use Rattle.rtp_base.proofs.ring.clear.Goals as goal

pub returns-then-end-first-clause-cleared : goal.returns-then-end-first-clause-cleared
returns-then-end-first-clause-cleared c n low high =
    ring_bit-zeros c.fill.new.self n (omega arith) (c.fill.ensures.after (λ y is. is) ∙ ap (λ (k : ℕ). replicate k 0) (sym c.fill.ensures.len))

pub loop-number-preserved : goal.loop-number-preserved
loop-number-preserved c = record {
  low = omega arith;
  high = omega arith;
  near = omega arith;
  cleared = λ n low before. elim (cases_lt n c.loop-number.number) [
    | inl passed ↦
        cleared-before c.loop-number.words c.clear_in_word.new.words c.loop-number.number c.min-count.result n
        (omega arith) (omega arith) c.clear_in_word.ensures.others passed (omega arith) ∙ c.loop-number.invariant.cleared n low passed
    | inr here ↦ c.clear_in_word.ensures.cleared n here before
  ];
  others = λ n high near. c.clear_in_word.ensures.others n high (omega arith) ∙ c.loop-number.invariant.others n (omega arith) near;
}
