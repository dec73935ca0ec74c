use Rattle.rtp_c.proofs.Common.{◌≡◌, ℕ, ◌*◌, length, refl, sym, ◌∙◌, subst, inl, inr, arith, false≢true, IsFreshOf}
use Rattle.rtp_c.proofs.wide_receiver.receive_number.Goals as goal

pub returns-then-not-take-clause-received : goal.returns-then-not-take-clause-received
returns-then-not-take-clause-received c count taken holds =
    let same : length c.take.new.words ≡ length c.args.words.now = omega arith in
    let told = c.take.ensures.judged count taken holds in
    inr (refl, λ fresh. false≢true (sym c.if-not-take.true ∙ told.1 (subst (λ (n : ℕ). IsFreshOf (64 * n) taken c.args.number) same fresh)))

pub returns-clause-received : goal.returns-clause-received
returns-clause-received c count taken holds =
    let same : length c.args.words.now ≡ length c.take.new.words = omega arith in
    inl (
      refl,
      refl,
      record {
        fresh = subst (λ (n : ℕ). IsFreshOf (64 * n) taken c.args.number) same ((c.take.ensures.judged count taken holds).0 c.if-not-take.false);
        recorded = c.take.ensures.recorded count taken holds c.if-not-take.false;
        started = c.take.ensures.started c.if-not-take.false;
      },
    )
