use Rattle.rtp_vla.proofs.Common.{arith, ◌∙◌, ap, sym, ◌*◌, ℕ}
use Rattle.std.proofs.lemmas.Grind.{pow_more}
use Rattle.rtp_vla.proofs.LebLemmas.{read_low, read_ninth, read_more, read_none, weight_fits, value_below}
use Rattle.rtp_vla.proofs.leb.long_number_at.Goals as goal

pub returns-then-byte-lt128-clause-read : goal.returns-then-byte-lt128-clause-read
returns-then-byte-lt128-clause-read c = read_low _ _ _ _ _ c.loop-i.invariant.read c.loop-i-test.true c.loop-i.invariant.few c.from.ensures c.if-byte-lt128.true

pub returns-then-i-eq8-clause-read : goal.returns-then-i-eq8-clause-read
returns-then-i-eq8-clause-read c = read_ninth _ _ _ _ _ c.loop-i.invariant.read c.loop-i-test.true c.if-i-eq8.true c.from.ensures

pub overflow_mul-weight : goal.overflow_mul-weight
overflow_mul-weight c = omega (arith, weight_fits _ _ c.loop-i.invariant.weight_is (omega arith))

pub loop-i-preserved : goal.loop-i-preserved
loop-i-preserved c = record {
  read = read_more _ _ _ _ _ c.loop-i.invariant.read c.loop-i-test.true (omega arith) c.from.ensures c.if-byte-lt128.false;
  weight_is = ap (λ (n : ℕ). n * 128) c.loop-i.invariant.weight_is ∙ sym (pow_more 128 c.loop-i.i);
  below = value_below _ _ _ _ c.loop-i.invariant.below c.from.ensures;
  few = omega arith;
}

pub returns-clause-read : goal.returns-clause-read
returns-clause-read c = read_none _ _ _ _ c.loop-i.invariant.read c.loop-i-test.false c.loop-i.invariant.few
