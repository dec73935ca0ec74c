use Rattle.std.proofs.Common.{arith}
use Rattle.rtp_receive.specs.Restarting.{leading_after}
use Rattle.rtp_receive.proofs.RestartingLemmas.{some_same}
use Rattle.rtp_receive.proofs.epoch.RestartingRow.first.Goals.{then-before-leading-via-then-before-leading, then-before-leading-via-else-before-leading+then-first_count}
use Rattle.rtp_receive.proofs.epoch.RestartingRow.first.Goals as goal

pub returns-then-before-leading-clause-none : goal.returns-then-before-leading-clause-none
returns-then-before-leading-clause-none c _ number begins = elim c.then-before-leading.branch [
  | then-before-leading-via-then-before-leading w ↦
      let leads = (c.before-2.ensures (leading_after c.args.min_sequential c.args.highest)).0 begins.lead in
      omega (arith, w.if-before-leading.true, c.first_after-leading.ensures.leading, leads)
  | then-before-leading-via-else-before-leading+then-first_count w ↦
      omega (arith, w.if-first_count.true, c.first_after-leading.ensures.count c.args.sequence_number, begins.number_is, begins.fits)
]

pub returns-clause-begins : goal.returns-clause-begins
returns-clause-begins c number is =
    let same = some_same c.from-2.result number is in
    let counted = c.first_after-leading.ensures.count c.args.sequence_number in
    record {
      number_is = omega (arith, same, counted, c.from-2.ensures, c.from.ensures, c.if-first_count.false);
      fits = omega (arith, same, c.from-2.ensures, c.from.ensures, c.if-first_count.false);
      lead = (c.before-2.ensures (leading_after c.args.min_sequential c.args.highest)).1 (omega (arith, c.if-before-leading.false, c.first_after-leading.ensures.leading));
    }
