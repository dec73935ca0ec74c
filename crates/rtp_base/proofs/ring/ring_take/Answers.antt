use Rattle.rtp_base.proofs.Common.{◌≡◌, ℕ, ◌-◌, ◌*◌, ◌∙◌, ap, arith, false, get_or, nat_eq, length, ne_eqb, ring_bits}
use Rattle.rtp_base.proofs.BitmapLemmas.{or-none}
use Rattle.rtp_base.proofs.RingLemmas.{accepts-low, set-shown}
use Rattle.rtp_base.proofs.WindowLemmas.{KeepsOf-recorded}
use Rattle.rtp_base.proofs.ring.ring_take.Goals as goal

pub returns-then-not-is_new-clause-accepts : goal.returns-then-not-is_new-clause-accepts
returns-then-not-is_new-clause-accepts c taken keeps =
    let is = rw (c.get-2.ensures, c.get-number.ensures) at c.is_new.ensures in
    rw c.if-not-is_new.true at (accepts-low c.args.words.now c.args.greatest.now taken c.args.seq c.is_new.result (omega arith) is keeps)

pub returns-clause-accepts : goal.returns-clause-accepts
returns-clause-accepts c taken keeps =
    let is = rw (c.get-2.ensures, c.get-number.ensures) at c.is_new.ensures in
    rw c.if-not-is_new.false at (accepts-low c.args.words.now c.args.greatest.now taken c.args.seq c.is_new.result (omega arith) is keeps)

pub returns-clause-recorded : goal.returns-clause-recorded
returns-clause-recorded c taken keeps done =
    let is = rw (c.get-2.ensures, c.get-number.ensures) at c.is_new.ensures in
    let near = (is.0 c.if-not-is_new.false).0 in
    let set = rw c.get-number.ensures at c.set.ensures in
    KeepsOf-recorded (64 * length c.args.words.now) c.args.greatest.now (ring_bits c.args.words.now c.args.greatest.now) (ring_bits c.set.new.words c.args.greatest.now)
    taken c.args.seq keeps (omega arith)
    (λ k. set-shown c.args.words.now c.set.new.words c.args.greatest.now c.args.seq k (omega arith) (omega arith) near set)

pub returns-clause-below_zero : goal.returns-clause-below_zero
returns-clause-below_zero c index past below =
    let is = rw (c.get-2.ensures, c.get-number.ensures) at c.is_new.ensures in
    let near = (is.0 c.if-not-is_new.false).0 in
    let set = rw c.get-number.ensures at c.set.ensures in
    let greatest : ℕ = c.args.greatest.now in
    let number : ℕ = c.args.seq in
    set-shown c.args.words.now c.set.new.words greatest number index (omega arith) (omega arith) near set below
    ∙ or-none (get_or (ring_bits c.args.words.now greatest) index false) (nat_eq index (greatest - number)) (ne_eqb index (greatest - number) (λ e. omega arith))
    ∙ ap (λ k. get_or (ring_bits c.args.words.now greatest) k false) (let e : index ≡ index - (greatest - greatest) = omega arith in e)
