use Rattle.rtp_c.proofs.Common.{ℤ, rules}
use Rattle.rtp_c.specs.StoredWideReceiver.{IsReceivedAs}
use Rattle.rtp_c.proofs.StatusLemmas.{passed_on}
use Rattle.rtp_c.proofs.wide_receiver.receive_other.Goals as goal

pub returns-clause-received : goal.returns-clause-received
returns-clause-received c count taken holds =
    let call = c.receive_number in
    passed_on call.result (search rules) (λ (z : ℤ). IsReceivedAs count taken c.args.number z call.new.written call.new.receiver call.new.words) (call.ensures.received count taken holds)
