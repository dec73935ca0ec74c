use Rattle.rtp_c.proofs.Common.{ℕ, sym, ◌∙◌, subst, including, ReceiverState, Holds, IsFresh, HoldsNumbers}
use Rattle.rtp_c.proofs.StoredLemmas.{IsStarted-held, MovesBelowZero-stored, started-refused, stored_again-is}
use Rattle.rtp_c.proofs.receiver.rtpw_receiver_record.Goals as goal

pub returns-clause-recorded : goal.returns-clause-recorded
returns-clause-recorded c count taken holds =
    subst (λ (n : ℕ). HoldsNumbers c.store.new.stored count (including taken n)) c.from.ensures
    (c.store.ensures.held count (including taken c.from.result) (c.record.ensures.recorded count taken (c.receiver_of-changed.ensures.held count taken holds)))

pub returns-clause-same : goal.returns-clause-same
returns-clause-same c count taken holds refused =
    let held = c.receiver_of-changed.ensures.held count taken holds in
    let same = c.record.ensures.unchanged count taken held (λ fresh. refused (subst (λ (n : ℕ). IsFresh taken n) c.from.ensures fresh)) in
    c.store.ensures.held count taken (subst (λ (state : ReceiverState). Holds state count taken) (sym same) held)

pub returns-clause-started : goal.returns-clause-started
returns-clause-started c =
    let some = c.receiver_of-changed.ensures.some in
    IsStarted-held c.record.new.self c.store.new.stored some.0 some.1 c.from.result (c.record.ensures.recorded some.0 some.1 some.2) c.store.ensures.window

pub returns-clause-refused : goal.returns-clause-refused
returns-clause-refused c count taken holds refused =
    let held = c.receiver_of-changed.ensures.held count taken holds in
    let same = c.record.ensures.unchanged count taken held (λ fresh. refused (subst (λ (n : ℕ). IsFresh taken n) c.from.ensures fresh)) in
    let started = started-refused c.args.receiver.now count taken c.args.number holds refused in
    let window = c.receiver_of-changed.ensures.window started in
    stored_again-is c.args.receiver.now c.store.new.stored window.0 window.2 (c.receiver_of-changed.ensures.fits started) (c.store.ensures.window window.0 (same ∙ window.1))

pub returns-clause-below_zero : goal.returns-clause-below_zero
returns-clause-below_zero c =
    let was = c.receiver_of-changed.ensures in
    let some = was.some in
    MovesBelowZero-stored c.args.receiver.now c.store.new.stored c.receiver_of-changed.result c.record.new.self some.0 some.1 c.from.result some.2
    (c.record.ensures.recorded some.0 some.1 some.2) c.record.ensures.below_zero c.store.ensures.window was.start was.window
