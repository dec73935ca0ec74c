use Rattle.std.proofs.Common.{◌-◌, length}
use Rattle.rtp_ext.specs.BodySurvey.{IsRowLengthTo}
use Rattle.rtp_ext.proofs.form_change.row_len.Given as goal

-- the length of the elements up to the offset
abbrev pub invariant-loop-place : goal.invariant-loop-place
invariant-loop-place l = IsRowLengthTo l.form l.new_form l.id l.body l.at l.len

abbrev pub decreases-loop-place : goal.decreases-loop-place
decreases-loop-place l = length l.body - l.at
