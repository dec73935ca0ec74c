use Rattle.std.proofs.Common.{◌≡◌, ◌+◌, refl, sym, ap, ◌∙◌, subst, arith}
use Rattle.rtp_receive.specs.Receiver.{Holds, taken_after}
use Rattle.rtp_receive.specs.declared.receiver.Verdict.TheVariants.{Taken}
use Rattle.rtp_uses.proofs.ReceivingLemmas.{first_taken, before_taken, no_number, IsNothing-no_number}
use Rattle.rtp_uses.proofs.receiving.receive_one_before_the_first.Goals as goal

pub returns : goal.returns
returns c =
    let low = c.args.first in
    let number = 65535 + low in
    let start = subst (λ state. Holds state 1 no_number) (sym c.starting_at-receiver.ensures) (refl, IsNothing-no_number) in
    let first : c.receive.result ≡ Taken (number + 1) =
    first_taken 1 no_number low c.receive.result IsNothing-no_number (c.receive.ensures.verdict 1 no_number start) ∙ ap Taken (omega (arith, c.requires)) in
    let held = subst (λ verdict. Holds c.receive.new.self 1 (taken_after no_number verdict)) first (c.receive.ensures.after 1 no_number start) in
    before_taken number c.args.before c.receive-2.result (omega (arith, c.requires)) (omega (arith, c.requires))
    (c.receive-2.ensures.verdict 1 _ held)
