use Rattle.std.proofs.Common.{length}
use Rattle.rtp_listing.proofs.InputLemmas.{SoFar}
use Rattle.rtp_listing.proofs.input.first_not_hex.Given as goal

-- the lines so far are hexadecimal
abbrev pub invariant-loop-rest : goal.invariant-loop-rest
invariant-loop-rest l = SoFar l.text l.rest l.lines_before l.number

abbrev pub decreases-loop-rest : goal.decreases-loop-rest
decreases-loop-rest l = length l.rest
