use Rattle.rtp_c.proofs.Common.{◌/◌, IsTrue, false, refl, sym, ◌∙◌, inl, inr, arith, false≢true}
use Rattle.rtp_c.proofs.wide_restarting.settle.Goals as goal

pub returns-then-take-clause-settled : goal.returns-then-take-clause-settled
returns-then-take-clause-settled c count taken holds =
    let judged = rw c.get.ensures at c.take.ensures.judged in
    rw c.in-Taken.is (inl (refl, (judged count taken holds).0 c.if-take.true))

pub returns-then-take-clause-epoch : goal.returns-then-take-clause-epoch
returns-then-take-clause-epoch c count taken holds =
    let recorded = rw c.get.ensures at c.take.ensures.recorded in
    recorded count taken holds c.if-take.true

pub returns-else-take-clause-settled : goal.returns-else-take-clause-settled
returns-else-take-clause-settled c count taken holds =
    let judged = rw c.get.ensures at c.take.ensures.judged in
    rw c.in-Taken.is (inr (refl, λ fresh. false≢true (sym c.if-take.false ∙ (judged count taken holds).1 fresh)))

pub returns-in-Restarted-clause-epoch : goal.returns-in-Restarted-clause-epoch
returns-in-Restarted-clause-epoch c count taken holds =
    let call = c.take-in-Restarted in
    let recorded = rw c.get-in-Restarted.ensures at call.ensures.recorded in
    let fresh : IsTrue call.result = (call.ensures.judged (c.args.receiver.now.highest / 65536) (λ n. false) (inl (refl, refl, λ n. refl))).1 (inl (λ n. refl)) in
    elim (recorded (c.args.receiver.now.highest / 65536) (λ n. false) (inl (refl, refl, λ n. refl)) fresh) [
      | inl never ↦ absurd (let started = call.ensures.started fresh in omega (arith, never.0, started.started_is))
      | inr held ↦ inr held
    ]

pub returns-in-Restarted-clause-started : goal.returns-in-Restarted-clause-started
returns-in-Restarted-clause-started c _ =
    let call = c.take-in-Restarted in
    call.ensures.started ((call.ensures.judged (c.args.receiver.now.highest / 65536) (λ n. false) (inl (refl, refl, λ n. refl))).1 (inl (λ n. refl)))

pub returns-in-Restarted-clause-again : goal.returns-in-Restarted-clause-again
returns-in-Restarted-clause-again c n _ =
    let call = c.take-in-Restarted in
    let fresh : IsTrue call.result = (call.ensures.judged (c.args.receiver.now.highest / 65536) (λ n. false) (inl (refl, refl, λ n. refl))).1 (inl (λ n. refl)) in
    let moves = call.ensures.below_zero fresh in
    record { first = λ _. moves.first refl; later = λ some. absurd (omega (arith, some)) }

pub returns-in-Refused-clause-epoch : goal.returns-in-Refused-clause-epoch
returns-in-Refused-clause-epoch c count taken holds = rw c.in-Refused.is holds
