use Rattle.std.proofs.Common.{◌+◌, inl, inr, arith}
use Rattle.std.specs.Prelude.{Some}
use Rattle.rtp_uses.proofs.ReceivingLemmas.{judged_fresh}
use Rattle.rtp_uses.proofs.receiving.receive_after_longest_jump.Goals as goal

pub returns : goal.returns
returns c count numbers highest holds top fits ends =
    judged_fresh numbers (highest + 32767) c.receive.result (inr (record { greatest = highest; is_greatest = top; above_or_new = inl (omega arith) }))
    (c.receive.ensures.true_number count numbers (highest + 32767) holds
    (record { fits = fits; ends = ends; highest = Some highest; is_highest = top; within = (omega arith, omega arith) }))
