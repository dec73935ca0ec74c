use Rattle.std.proofs.Common.{refl, sym, ap, ◌∙◌, subst, arith}
use Rattle.rtp_receive.specs.declared.receiver.Verdict.TheVariants.{Taken}
use Rattle.rtp_receive.specs.Receiver.{Holds}
use Rattle.rtp_receive.specs.Receivers.{state_of}
use Rattle.rtp_receive.proofs.ReceiversLemmas.{same_state}
use Rattle.rtp_uses.proofs.ReceivingLemmas.{first_taken, no_number, IsNothing-no_number}
use Rattle.rtp_uses.proofs.receiving.receive_first_of_two.Goals as goal

pub returns-clause-one : goal.returns-clause-one
returns-clause-one c =
    first_taken 0 no_number c.sequence_number.result c.in_ok-first.first IsNothing-no_number
    (c.in_ok-first.ensures.verdict 0 no_number
    (subst (λ receivers. Holds (state_of receivers c.ssrc.result) 0 no_number) (sym c.new-receivers.ensures) (refl, IsNothing-no_number)))
    ∙ ap Taken (omega arith)

pub returns-clause-other : goal.returns-clause-other
returns-clause-other c =
    let here = c.ssrc-2.result in
    let stays = same_state _ _ here c.in_ok-first.ensures.source.count (c.in_ok-first.ensures.source.others here (λ same. c.requires (sym c.ssrc-2.ensures ∙ same ∙ c.ssrc.ensures))) in
    first_taken 0 no_number c.sequence_number-2.result c.in_ok-second.second IsNothing-no_number
    (c.in_ok-second.ensures.verdict 0 no_number
    (subst (λ state. Holds state 0 no_number) (sym (stays ∙ ap (λ receivers. state_of receivers here) c.new-receivers.ensures)) (refl, IsNothing-no_number)))
    ∙ ap Taken (omega arith)
