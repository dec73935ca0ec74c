use Rattle.rtp_ext.proofs.Common.{◌-◌, length, IsGatheredTo}
use Rattle.rtp_ext.proofs.gathering.gather_in.Given as goal

-- the elements up to the offset stand in a row
abbrev pub invariant-loop-place : goal.invariant-loop-place
invariant-loop-place l = IsGatheredTo l.form l.id l.initial.body l.body l.at l.len

abbrev pub decreases-loop-place : goal.decreases-loop-place
decreases-loop-place l = length l.body - l.at
