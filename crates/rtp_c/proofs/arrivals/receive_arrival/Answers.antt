use Rattle.rtp_c.proofs.Common.{◌≢◌, ℤ, refl, subst, arith, rules, w32, FitsSigned, to_z-of_z, ok}
use Rattle.rtp_c.specs.Judging.{IsJudgedBy}
use Rattle.rtp_c.proofs.StatusLemmas.{passed_on}
use Rattle.rtp_c.proofs.arrivals.receive_arrival.Goals as goal

pub returns : goal.returns
returns c =
    let call = c.rtpw_receiver_receive-arrival in
    let fits : FitsSigned w32 call.result = search rules in
    record {
      receiver_is = refl;
      sequence_number_is = refl;
      there = λ _. (
        call.new.receiver,
        record {
          judged = λ count taken holds. passed_on call.result fits (λ (z : ℤ). IsJudgedBy count taken c.args.arrival.now.sequence_number z call.new.number call.new.receiver) (call.ensures.judged count taken holds);
          below_zero = call.ensures.below_zero;
          unchanged = λ other. call.ensures.unchanged (subst (λ (z : ℤ). z ≢ ok) (to_z-of_z w32 call.result fits) other);
        },
        refl,
      );
      none_there = λ past. absurd (omega (arith, past, c.if-place-receivers.false));
    }
