use Rattle.std.proofs.Common.{refl, sym, ap, ◌∙◌, subst, arith}
use Rattle.rtp_receive.specs.declared.receiver.Verdict.TheVariants.{Taken}
use Rattle.rtp_receive.specs.Receiver.{Holds}
use Rattle.rtp_uses.proofs.ReceivingLemmas.{first_taken, no_number, IsNothing-no_number}
use Rattle.rtp_uses.proofs.receiving.receive_first_at.Goals as goal

pub returns : goal.returns
returns c =
    let count = c.args.rollover_count in
    first_taken count no_number c.args.sequence_number c.receive.result IsNothing-no_number
    (c.receive.ensures.verdict count no_number (subst (λ state. Holds state count no_number) (sym c.starting_at-receiver.ensures) (refl, IsNothing-no_number)))
    ∙ ap Taken (omega arith)
