use Rattle.rtp_ext.proofs.Common.{◌≡◌, length, without_padding}
use Rattle.rtp_ext.proofs.elements.skip_zero_words.Given as goal

-- what was passed is padding
abbrev pub invariant-loop-word : goal.invariant-loop-word
invariant-loop-word l = without_padding l.rest ≡ without_padding l.bytes

abbrev pub decreases-loop-word : goal.decreases-loop-word
decreases-loop-word l = length l.rest
