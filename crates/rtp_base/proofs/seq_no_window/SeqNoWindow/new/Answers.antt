use Rattle.rtp_base.proofs.Common.{ℕ, subst, arith, only, Keeps, bits_of}
use Rattle.rtp_base.proofs.BitmapLemmas.{one-first, one-others}
use Rattle.rtp_base.proofs.WindowLemmas.{Keeps-only}
use Rattle.rtp_base.proofs.seq_no_window.SeqNoWindow.new.Goals as goal

pub invariant_of-result : goal.invariant_of-result
invariant_of-result c = one-first

pub returns-clause-kept : goal.returns-clause-kept
returns-clause-kept c = subst (λ (n : ℕ). Keeps (record { greatest = c.get.result; recorded = bits_of 1 }) (only n)) c.get.ensures (Keeps-only c.get.result)

pub returns-clause-below_zero : goal.returns-clause-below_zero
returns-clause-below_zero c index past below = one-others index (omega (arith, past)) below
