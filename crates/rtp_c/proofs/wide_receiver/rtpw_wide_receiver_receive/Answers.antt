use Rattle.rtp_c.proofs.Common.{ℤ, rules}
use Rattle.rtp_c.specs.StoredWideReceiver.{IsReceivedAs}
use Rattle.rtp_c.proofs.StatusLemmas.{passed_on}
use Rattle.rtp_c.proofs.wide_receiver.rtpw_wide_receiver_receive.Goals as goal

pub returns-then-is_usual-clause-received : goal.returns-then-is_usual-clause-received
returns-then-is_usual-clause-received c few count taken holds =
    let number = c.rtpw_wide_receiver_number_of-extended.result in
    let call = c.receive_number in
    record {
      number = number;
      is_number = c.rtpw_wide_receiver_number_of-extended.ensures.nearest c.args.words.now count taken holds;
      received = passed_on call.result (search rules) (λ (z : ℤ). IsReceivedAs count taken number z call.new.written call.new.receiver call.new.words) (call.ensures.received count taken holds);
    }

pub returns-else-receiver-ne0-clause-received : goal.returns-else-receiver-ne0-clause-received
returns-else-receiver-ne0-clause-received c few count taken holds =
    let number = c.rtpw_wide_receiver_number_of-extended.result in
    let call = c.receive_other in
    record {
      number = number;
      is_number = c.rtpw_wide_receiver_number_of-extended.ensures.nearest c.args.words.now count taken holds;
      received = passed_on call.result (search rules) (λ (z : ℤ). IsReceivedAs count taken number z call.new.written call.new.receiver call.new.words) (call.ensures.received count taken holds);
    }
