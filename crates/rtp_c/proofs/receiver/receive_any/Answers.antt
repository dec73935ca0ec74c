use Rattle.rtp_c.proofs.Common.{ℤ, rules}
use Rattle.rtp_c.specs.Judging.{IsJudgedAs}
use Rattle.rtp_c.proofs.StatusLemmas.{passed_on}
use Rattle.rtp_c.proofs.receiver.receive_any.Goals as goal

pub returns-clause-judged : goal.returns-clause-judged
returns-clause-judged c count taken holds =
    let number = c.rtpw_receiver_number_of-extended.result in
    record {
      number = number;
      is_number = c.rtpw_receiver_number_of-extended.ensures.nearest count taken holds;
      judged = passed_on c.take.result (search rules) (λ (z : ℤ). IsJudgedAs count taken number z c.take.new.written c.take.new.receiver) (c.take.ensures.judged count taken holds);
    }
