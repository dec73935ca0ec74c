use Rattle.rtp_ext.proofs.Common.{◌-◌, ◌≤◌, Option, length, Place, IsLeft, IsSurveyedTo}
use Rattle.rtp_ext.proofs.survey.Walk.next_of.Given as goal

-- what was known of the elements up to the bytes that were left is known up to those that are left
abbrev pub invariant-loop-other : goal.invariant-loop-other
invariant-loop-other l =
    IsLeft l.body l.self.left.now
    × (length l.self.left.now ≤ length l.initial.self.left.now)
    × (l.self.others_len ≤ length l.body - length l.self.left.now)
    × (l.self.count ≤ length l.body - length l.self.left.now)
    × ((last : Option Place) → IsSurveyedTo l.form l.body (length l.body - length l.initial.self.left.now) l.id last l.initial.self.count l.initial.self.others_len
    → IsSurveyedTo l.form l.body (length l.body - length l.self.left.now) l.id last l.self.count l.self.others_len)

abbrev pub decreases-loop-other : goal.decreases-loop-other
decreases-loop-other l = length l.self.left.now
