use Rattle.std.proofs.Common.{refl, sym, subst, inl, arith}
use Rattle.std.specs.Prelude.{None}
use Rattle.rtp_receive.specs.Receiver.{Holds}
use Rattle.rtp_receive.specs.TrueNumbers.{IsTrueNumber}
use Rattle.rtp_uses.proofs.ReceivingLemmas.{judged_fresh, no_number, IsNothing-no_number}
use Rattle.rtp_uses.proofs.receiving.receive_greatest_first.Goals as goal

pub returns : goal.returns
returns c =
    let true_number : IsTrueNumber 0 no_number 65535 65535 =
    record { fits = omega arith; ends = refl; highest = None; is_highest = IsNothing-no_number; within = (omega arith, omega arith) } in
    judged_fresh no_number 65535 c.receive.result (inl IsNothing-no_number)
    (c.receive.ensures.true_number 0 no_number 65535 (subst (λ state. Holds state 0 no_number) (sym c.new-receiver.ensures) (refl, IsNothing-no_number)) true_number)
