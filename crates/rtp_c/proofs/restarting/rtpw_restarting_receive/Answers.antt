use Rattle.rtp_c.proofs.Common.{ℤ, epoch_after, rules}
use Rattle.rtp_c.specs.StoredRestarting.{IsAnsweredIn}
use Rattle.rtp_c.proofs.StatusLemmas.{passed_on}
use Rattle.rtp_c.proofs.RestartingLemmas.{answered}
use Rattle.rtp_c.proofs.restarting.rtpw_restarting_receive.Goals as goal

pub returns-clause-answered : goal.returns-clause-answered
returns-clause-answered c taken holds =
    let held = c.receiver_of-changed.ensures.held taken holds in
    let old = c.args.receiver.now in
    let new = c.store.new.stored in
    let low = c.args.sequence_number in
    let verdict = c.receive-verdict.result in
    passed_on c.tell.result (search rules) (λ (z : ℤ). IsAnsweredIn old taken low z c.tell.new.number new)
    (answered old new c.receiver_of-changed.result c.receive-verdict.new.self taken low verdict c.tell.result c.tell.new.number c.receiver_of-changed.ensures.bounds c.receiver_of-changed.ensures.row
    c.store.ensures.row (c.receive-verdict.ensures.verdict 1 taken held) (c.receive-verdict.ensures.row 1 taken held) c.tell.ensures.told (c.store.ensures.held (epoch_after taken verdict) (c.receive-verdict.ensures.epoch 1 taken held)))
