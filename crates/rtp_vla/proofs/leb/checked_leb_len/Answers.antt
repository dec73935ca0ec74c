use Rattle.std.proofs.Common.{ap, length, arith}
use Rattle.rtp_vla.proofs.LebSpellingLemmas.{shortest-one, shortest-two}
use Rattle.rtp_vla.proofs.leb.checked_leb_len.Goals as goal

pub returns-then-value-lt128-clause-fits : goal.returns-then-value-lt128-clause-fits
returns-then-value-lt128-clause-fits c = (omega arith, omega (arith, ap length (shortest-one c.args.value c.if-value-lt128.true)))

pub returns-clause-fits : goal.returns-clause-fits
returns-clause-fits c = (omega arith, omega (arith, ap length (shortest-two c.args.value c.if-value-lt128.false c.if-value-ge16384.false)))
