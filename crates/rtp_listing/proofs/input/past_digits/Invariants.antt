use Rattle.std.proofs.Common.{length}
use Rattle.rtp_listing.specs.Front.{IsPastDigits}
use Rattle.rtp_listing.proofs.input.past_digits.Given as goal

-- what was passed are digits
abbrev pub invariant-loop-rest : goal.invariant-loop-rest
invariant-loop-rest l = IsPastDigits l.text l.rest

abbrev pub decreases-loop-rest : goal.decreases-loop-rest
decreases-loop-rest l = length l.rest
