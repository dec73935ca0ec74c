use Rattle.rtp_c.proofs.Common.{ℤ, ◌+◌, arith, rules, ◌∙◌}
use Rattle.rtp_c.specs.Judging.{IsJudgedAs, IsJudgedBy}
use Rattle.rtp_c.proofs.JudgingLemmas.{next_number}
use Rattle.rtp_c.proofs.StatusLemmas.{passed_on}
use Rattle.rtp_c.proofs.receiver.rtpw_receiver_receive.Goals as goal

pub returns-then-highest-from-clause-judged : goal.returns-then-highest-from-clause-judged
returns-then-highest-from-clause-judged c count taken holds =
    let next = c.args.receiver.now.highest + 1 in
    record {
      number = next;
      is_number = next_number c.args.receiver.now count taken c.args.sequence_number holds c.if-receiver-eq1.true (let few = c.if-highest-lt18446744073709551615.true in omega arith)
          (let low = c.ranges.sequence_number in omega arith) (c.if-highest-from.true ∙ c.from.ensures);
      judged = passed_on c.take.result (search rules) (λ (z : ℤ). IsJudgedAs count taken next z c.take.new.written c.take.new.receiver) (c.take.ensures.judged count taken holds);
    }

pub returns-clause-judged : goal.returns-clause-judged
returns-clause-judged c count taken holds =
    passed_on c.receive_any.result (search rules) (λ (z : ℤ). IsJudgedBy count taken c.args.sequence_number z c.receive_any.new.number c.receive_any.new.receiver) (c.receive_any.ensures.judged count taken holds)
