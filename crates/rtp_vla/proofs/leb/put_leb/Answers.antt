use Rattle.rtp_vla.proofs.Common.{◌+◌, ◌*◌, ◌/◌, ◌∙◌, ap, length, arith, overwritten}
use Rattle.rtp_vla.proofs.LebSpellingLemmas.{shortest-one, put_one, spread_two}
use Rattle.rtp_vla.proofs.leb.put_leb.Goals as goal

pub bounds-buf-at : goal.bounds-buf-at
bounds-buf-at c = omega (arith, c.requires.room, ap length (shortest-one c.args.value c.if-value-lt128.true))

pub returns-then-value-lt128-clause-written : goal.returns-then-value-lt128-clause-written
returns-then-value-lt128-clause-written c = put_one c.args.buf.now c.args.at c.args.value c.if-value-lt128.true c.requires.room

pub returns-then-value-lt128-clause-end : goal.returns-then-value-lt128-clause-end
returns-then-value-lt128-clause-end c = omega (arith, ap length (shortest-one c.args.value c.if-value-lt128.true))

pub put-requires : goal.put-requires
put-requires c =
    omega (arith, c.requires.room, ap length (spread_two c.args.value (c.args.value + c.args.value / 128 * 128 + 128) c.if-value-lt128.false c.if-value-lt16384.true (omega arith)))

pub returns-then-value-lt16384-clause-written : goal.returns-then-value-lt16384-clause-written
returns-then-value-lt16384-clause-written c =
    c.put.ensures.written ∙ ap (overwritten c.args.buf.now c.args.at) c.low_and_high.ensures
    ∙ ap (overwritten c.args.buf.now c.args.at) (spread_two c.args.value (c.args.value + c.args.value / 128 * 128 + 128) c.if-value-lt128.false c.if-value-lt16384.true (omega arith))

pub returns-then-value-lt16384-clause-end : goal.returns-then-value-lt16384-clause-end
returns-then-value-lt16384-clause-end c =
    omega (arith, c.put.ensures.end, ap length (spread_two c.args.value (c.args.value + c.args.value / 128 * 128 + 128) c.if-value-lt128.false c.if-value-lt16384.true (omega arith)))
