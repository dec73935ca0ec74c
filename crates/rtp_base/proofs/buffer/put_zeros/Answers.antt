use Rattle.std.proofs.Common.{ℕ, arith, replicate, ap, ◌∙◌}
use Rattle.rtp_base.proofs.OverwritingLemmas.{overwritten-filled}
use Rattle.rtp_base.proofs.buffer.put_zeros.Goals as goal

pub returns-clause-written : goal.returns-clause-written
returns-clause-written c =
    overwritten-filled c.args.buf.now c.fill.new.self c.args.at c.args.count
    (c.fill.ensures.after (λ y is. is) ∙ ap (λ (k : ℕ). replicate k 0) (omega (arith, c.fill.ensures.len)))
