use Rattle.rtp_c.proofs.Common.{sym, ◌∙◌, arith, false≢true, ring_size, IsFreshOf}
use Rattle.rtp_receive.proofs.StandingLemmas.{standing-taken, standing-too_old}
use Rattle.rtp_c.proofs.StoredWideLemmas.{top_refused}
use Rattle.rtp_c.proofs.standing.standing_in.Goals as goal

pub returns-then-accepts : goal.returns-then-accepts
returns-then-accepts c count taken holds = (c.accepts.ensures count taken holds).0 c.if-accepts.true

pub returns-then-saturating_sub-words : goal.returns-then-saturating_sub-words
returns-then-saturating_sub-words c count taken holds =
    let words = c.args.words.now in
    let refused : IsFreshOf (ring_size words) taken c.args.number → ⊥ = λ it. false≢true (sym c.if-accepts.false ∙ (c.accepts.ensures count taken holds).1 it) in
    standing-taken (ring_size words) taken c.args.number c.args.receiver.now.highest (top_refused c.args.receiver.now words count taken c.args.number holds refused) refused
    (omega (arith, c.if-saturating_sub-words.true, c.saturating_sub.ensures))

pub returns-else-saturating_sub-words : goal.returns-else-saturating_sub-words
returns-else-saturating_sub-words c count taken holds =
    let words = c.args.words.now in
    let refused : IsFreshOf (ring_size words) taken c.args.number → ⊥ = λ it. false≢true (sym c.if-accepts.false ∙ (c.accepts.ensures count taken holds).1 it) in
    standing-too_old (ring_size words) taken c.args.number c.args.receiver.now.highest (top_refused c.args.receiver.now words count taken c.args.number holds refused) refused
    (omega (arith, c.if-saturating_sub-words.false, c.saturating_sub.ensures))
