use Rattle.rtp_ext.proofs.Common.{◌≡◌, length, without_padding}
use Rattle.rtp_ext.proofs.elements.skip_zeros.Given as goal

-- what was passed is padding
abbrev pub invariant-loop-byte : goal.invariant-loop-byte
invariant-loop-byte l = without_padding l.bytes ≡ without_padding l.rest

abbrev pub decreases-loop-byte : goal.decreases-loop-byte
decreases-loop-byte l = length l.rest
