use Rattle.rtp_c.proofs.Common.{◌≡◌, ℕ, ◌*◌, length, refl, subst, inl, inr, arith, false≢true, IsFreshOf}
use Rattle.rtp_c.proofs.wide_receiver.rtpw_wide_receiver_record.Goals as goal

pub returns-then-take-clause-judged : goal.returns-then-take-clause-judged
returns-then-take-clause-judged c few count taken holds =
    let same : length c.args.words.now ≡ length c.take.new.words = omega arith in
    inl (
      refl,
      record {
        fresh = subst (λ (n : ℕ). IsFreshOf (64 * n) taken c.args.number) same ((c.take.ensures.judged count taken holds).0 c.if-take.true);
        recorded = c.take.ensures.recorded count taken holds c.if-take.true;
        started = c.take.ensures.started c.if-take.true;
      },
    )

pub returns-else-take-clause-judged : goal.returns-else-take-clause-judged
returns-else-take-clause-judged c few count taken holds =
    let same : length c.take.new.words ≡ length c.args.words.now = omega arith in
    let told = c.if-take.ensures.judged count taken holds in
    inr (refl, λ fresh. false≢true (told.1 (subst (λ (n : ℕ). IsFreshOf (64 * n) taken c.args.number) same fresh)))
