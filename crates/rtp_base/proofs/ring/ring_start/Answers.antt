use Rattle.rtp_base.proofs.Common.{◌≡◌, ℕ, ◌*◌, ◌∙◌, ap, sym, arith, replicate, length, ring_bits}
use Rattle.rtp_base.proofs.RingLemmas.{advanced-first, started-others}
use Rattle.rtp_base.proofs.WindowLemmas.{KeepsOf-only}
use Rattle.rtp_base.proofs.ring.ring_start.Goals as goal

pub returns-clause-kept : goal.returns-clause-kept
returns-clause-kept c =
    let recorded = rw c.get.ensures at c.set.ensures in
    let zeros : c.fill.new.self ≡ replicate (length c.fill.new.self) 0 = c.fill.ensures.after (λ y is. is) ∙ ap (λ (k : ℕ). replicate k 0) (sym c.fill.ensures.len) in
    KeepsOf-only (64 * length c.args.words.now) c.args.seq (ring_bits c.set.new.words c.args.seq)
    (advanced-first c.fill.new.self c.set.new.words c.args.seq (omega arith) (omega arith) recorded)
    (λ k some below. started-others c.fill.new.self c.set.new.words c.args.seq k (omega arith) zeros recorded some (omega arith))

pub returns-clause-below_zero : goal.returns-clause-below_zero
returns-clause-below_zero c index past below =
    let recorded = rw c.get.ensures at c.set.ensures in
    let zeros : c.fill.new.self ≡ replicate (length c.fill.new.self) 0 = c.fill.ensures.after (λ y is. is) ∙ ap (λ (k : ℕ). replicate k 0) (sym c.fill.ensures.len) in
    started-others c.fill.new.self c.set.new.words c.args.seq index (omega arith) zeros recorded (omega arith) (omega arith)
