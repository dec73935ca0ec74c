use Rattle.std.proofs.Common.{◌+◌, ◌*◌, ◌∙◌, arith, Some}
use Rattle.rtp_vla.proofs.LebLemmas.{read_two}
use Rattle.rtp_vla.proofs.leb.number_at.Goals as goal

pub returns-then-second-lt128-clause-read : goal.returns-then-second-lt128-clause-read
returns-then-second-lt128-clause-read c =
    (λ j. Some (c.from.result + 128 * c.from-then-second-lt128.ensures j, 2)) ∙ read_two c.args.buf.now c.from.result (omega arith) c.from.ensures c.if-first-ge128.true c.if-second-lt128.true
