use Rattle.rtp_ext.proofs.Common.{◌-◌, length, IsLeft, IsSurveyedTo}
use Rattle.rtp_ext.proofs.survey.survey_in.Given as goal

-- what is known of the elements up to the bytes that are left
abbrev pub invariant-loop-place : goal.invariant-loop-place
invariant-loop-place l =
    IsLeft l.body l.walk.left.now × IsSurveyedTo l.form l.body (length l.body - length l.walk.left.now) l.id l.last l.walk.count l.walk.others_len

abbrev pub decreases-loop-place : goal.decreases-loop-place
decreases-loop-place l = length l.walk.left.now
