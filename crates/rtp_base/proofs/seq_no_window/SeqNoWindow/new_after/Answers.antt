use Rattle.rtp_base.proofs.Common.{ℕ, ◌-◌, ◌^◌, arith, subst, up_to, Keeps, bits_of}
use Rattle.rtp_base.proofs.BitmapLemmas.{ones-at}
use Rattle.rtp_base.proofs.WindowLemmas.{Keeps-up_to}
use Rattle.rtp_base.proofs.seq_no_window.SeqNoWindow.new_after.Goals as goal

pub invariant_of-result : goal.invariant_of-result
invariant_of-result c = ones-at 0 (omega arith)

pub returns-clause-kept : goal.returns-clause-kept
returns-clause-kept c = subst (λ (n : ℕ). Keeps (record { greatest = c.get.result; recorded = bits_of (2 ^ 128 - 1) }) (up_to n)) c.get.ensures (Keeps-up_to c.get.result)

pub returns-clause-below_zero : goal.returns-clause-below_zero
returns-clause-below_zero c index past below = ones-at index below
