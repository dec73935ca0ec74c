use Rattle.rtp_ext.proofs.Common.{◌-◌, arith, rules, sym, ◌∙◌}
use Rattle.rtp_ext.proofs.WalkLemmas.{IsMapped-slot}
use Rattle.rtp_ext.proofs.slots.last_id.Goals as goal

pub returns-else-not-is_mapped : goal.returns-else-not-is_mapped
returns-else-not-is_mapped c = record {
  none_above = c.loop-last.invariant.0;
  mapped = λ some. IsMapped-slot c.args.slots.now c.loop-last.last (c.from.result - 1)
      (omega (arith, c.from.ensures, c.loop-last-test.true)) (omega (arith, c.from.ensures, c.loop-last-test.true, c.loop-last.invariant.1)) c.index-slots-from.is
      (sym c.is_mapped.ensures ∙ search rules);
}
