use Rattle.rtp_base.proofs.Common.{◌≡◌, ℕ, ◌-◌, ◌*◌, ◌^◌, ◌∙◌, ap, sym, arith, replicate, length, ring_bits}
use Rattle.rtp_base.proofs.RingLemmas.{full-at}
use Rattle.rtp_base.proofs.WindowLemmas.{KeepsOf-up_to}
use Rattle.rtp_base.proofs.ring.ring_start_after.Goals as goal

pub returns-clause-kept : goal.returns-clause-kept
returns-clause-kept c =
    let ones : c.fill.new.self ≡ replicate (length c.fill.new.self) (2 ^ 64 - 1) = c.fill.ensures.after (λ y is. is) ∙ ap (λ (k : ℕ). replicate k (2 ^ 64 - 1)) (sym c.fill.ensures.len) in
    KeepsOf-up_to (64 * length c.args.words.now) c.args.seq (ring_bits c.fill.new.self c.args.seq)
    (λ k below. full-at c.fill.new.self c.args.seq k ones (omega (arith, c.fill.ensures.len)))

pub returns-clause-below_zero : goal.returns-clause-below_zero
returns-clause-below_zero c index past below =
    let ones : c.fill.new.self ≡ replicate (length c.fill.new.self) (2 ^ 64 - 1) = c.fill.ensures.after (λ y is. is) ∙ ap (λ (k : ℕ). replicate k (2 ^ 64 - 1)) (sym c.fill.ensures.len) in
    full-at c.fill.new.self c.args.seq index ones (omega (arith, c.fill.ensures.len))
