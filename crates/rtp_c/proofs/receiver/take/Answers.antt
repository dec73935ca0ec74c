use Rattle.rtp_c.proofs.Common.{◌≡◌, ℕ, Bool, true, cond, refl, sym, ap, ◌∙◌, subst, inl, inr, arith, false≢true, Numbers, including, ReceiverState, Holds, IsFresh, HoldsNumbers, bit_of}
use Rattle.rtp_c.proofs.StoredLemmas.{started-refused, IsStarted-held, MovesBelowZero-stored}
use Rattle.rtp_c.proofs.receiver.take.Goals as goal

-- what is taken once the number is
taken_now : (takes : Bool) (state : ReceiverState) (count : ℕ) (taken : Numbers) (number : ℕ) → takes ≡ true → Holds state count (cond takes (including taken number) taken)
    → Holds state count (including taken number)
taken_now takes state count taken number is holds = subst (λ (b : Bool). Holds state count (cond b (including taken number) taken)) is holds

pub returns-then-not-take-clause-judged : goal.returns-then-not-take-clause-judged
returns-then-not-take-clause-judged c count taken holds =
    let accepts = c.take.ensures.accepts count taken (c.receiver_of-changed.ensures.held count taken holds) in
    inr (refl, λ fresh. absurd (false≢true (sym c.if-not-take.true ∙ accepts.1 (subst (λ (n : ℕ). IsFresh taken n) (sym c.from-seq_no.ensures) fresh))))

-- a receiver that refuses a number has started
pub returns-then-not-take-clause-below_zero : goal.returns-then-not-take-clause-below_zero
returns-then-not-take-clause-below_zero c =
    let some = c.receiver_of-changed.ensures.some in
    let started =
    started-refused c.args.receiver.now some.0 some.1 c.from-seq_no.result (c.receiver_of-changed.ensures.only some.0 some.1 some.2)
    (λ fresh. false≢true (sym c.if-not-take.true ∙ (c.take.ensures.accepts some.0 some.1 some.2).1 fresh)) in
    record {
      first = λ empty. absurd (omega (arith, started, empty));
      later = λ _ index past below. ap (λ (k : ℕ). bit_of c.args.receiver.now k) (omega arith);
    }

pub returns-clause-judged : goal.returns-clause-judged
returns-clause-judged c count taken holds =
    let held = c.receiver_of-changed.ensures.held count taken holds in
    let accepts = c.take.ensures.accepts count taken held in
    inl (
      refl,
      record {
        fresh = subst (λ (n : ℕ). IsFresh taken n) c.from-seq_no.ensures (accepts.0 c.if-not-take.false);
        written_is = refl;
        recorded = subst (λ (n : ℕ). HoldsNumbers c.store.new.stored count (including taken n)) c.from-seq_no.ensures
            (c.store.ensures.held count (including taken c.from-seq_no.result) (taken_now c.take.result c.take.new.self count taken c.from-seq_no.result c.if-not-take.false (c.take.ensures.taken count taken held)));
        started = IsStarted-held c.take.new.self c.store.new.stored count taken c.from-seq_no.result (taken_now c.take.result c.take.new.self count taken c.from-seq_no.result c.if-not-take.false (c.take.ensures.taken count taken held)) c.store.ensures.window;
      },
    )

pub returns-clause-below_zero : goal.returns-clause-below_zero
returns-clause-below_zero c =
    let was = c.receiver_of-changed.ensures in
    let some = was.some in
    MovesBelowZero-stored c.args.receiver.now c.store.new.stored c.receiver_of-changed.result c.take.new.self some.0 some.1 c.from-seq_no.result some.2
    (taken_now c.take.result c.take.new.self some.0 some.1 c.from-seq_no.result c.if-not-take.false (c.take.ensures.taken some.0 some.1 some.2)) c.take.ensures.below_zero c.store.ensures.window was.start was.window
