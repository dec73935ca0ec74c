use Rattle.std.proofs.Common.{refl, subst}
use Rattle.rtp_receive.specs.Restarting.{Bounds, taken_in, IsPlaced}
use Rattle.rtp_receive.specs.RestartingState.{bounds_of_size, RowLeadsOf, Grows}
use Rattle.rtp_receive.proofs.RestartingLemmas.{starts_there, settled-verdict, settled-row}
use Rattle.rtp_receive.proofs.EpochLemmas.{follows}
use Rattle.rtp_receive.proofs.restarting.RestartingStreamReceiver.receive.Goals as goal

pub returns-clause-verdict : goal.returns-clause-verdict
returns-clause-verdict g c count taken holds =
    let size = g.W.ReplayWindow.size in
    let bounds : Bounds = bounds_of_size size c.args.self.now in
    let low = c.args.sequence_number in
    let Lead = RowLeadsOf c.args.self.now low in
    let verdict = c.judge-verdict.result in
    let start = starts_there size c.args.self.now.receiver count c.rollover_count-rollover_count.result taken holds c.rollover_count-rollover_count.ensures.empty in
    settled-verdict bounds count taken Lead low verdict c.settle.result
    (subst (λ (b : Bounds). IsPlaced b count taken Lead low verdict) c.bounds-bounds.ensures
    (c.judge-verdict.ensures.placed size count taken (c.highest-highest.ensures.highest count taken holds) start)) (c.settle.ensures.settled count taken holds)

pub returns-clause-row : goal.returns-clause-row
returns-clause-row g c count taken holds =
    let size = g.W.ReplayWindow.size in
    let low = c.args.sequence_number in
    let row = c.args.self.now.row in
    let after = c.judge-verdict.new.self in
    let verdict = c.judge-verdict.result in
    let top = c.highest-highest.ensures.highest count taken holds in
    let found = c.rollover_count-rollover_count.result in
    subst (λ (b : Bounds). Grows b taken low c.settle.result row.len row.next after.len after.next) c.bounds-bounds.ensures
    (settled-row _ found taken (RowLeadsOf c.args.self.now low) low verdict c.settle.result row.len row.next after.len after.next
    (c.judge-verdict.ensures.placed size found taken top (λ _. refl)) (c.settle.ensures.settled count taken holds) (c.judge-verdict.ensures.row size taken top))

pub returns-clause-follows : goal.returns-clause-follows
returns-clause-follows g c before remembers =
    follows g.W.ReplayWindow.size c.args.self.now _ c.args.sequence_number c.settle.result before remembers
    (returns-clause-verdict g c 1 (taken_in before) remembers.holds) (c.settle.ensures.epoch 1 (taken_in before) remembers.holds)
    (returns-clause-row g c 1 (taken_in before) remembers.holds) refl
