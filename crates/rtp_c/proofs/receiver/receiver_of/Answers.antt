use Rattle.rtp_c.proofs.Common.{◌≡◌, Bool, true, false, ◌||◌, ◌/◌, refl, sym, ◌∙◌, subst, arith, Keeps-shown, ReceiverState, Holds}
use Rattle.rtp_c.proofs.StoredWideLemmas.{none, nothing}
use Rattle.rtp_c.proofs.receiver.receiver_of.Goals as goal

or_true : (x : Bool) → (x || true) ≡ true
or_true true = refl
or_true false = refl

pub returns-then-stored-eq0-clause-some : goal.returns-then-stored-eq0-clause-some
returns-then-stored-eq0-clause-some c =
    let count = c.args.stored.now.highest / 65536 in
    (count, none, subst (λ (state : ReceiverState). Holds state count none) (sym c.starting_at.ensures) (refl, nothing))

pub returns-clause-some : goal.returns-clause-some
returns-clause-some c =
    let window = c.from_parts.result in
    let kept = Keeps-shown window.greatest window.recorded (c.from_parts.ensures.recorded 0 (omega arith) ∙ or_true _) in
    (0, kept.0, subst (λ (state : ReceiverState). Holds state 0 kept.0) (sym c.from-4.ensures) kept.1)
