use Rattle.rtp_ext.proofs.Common.{◌-◌, length, ChangesRowTo}
use Rattle.rtp_ext.proofs.form_change.change_row_in.Given as goal

-- the elements up to the offset stand at the front in the other form
abbrev pub invariant-loop-place : goal.invariant-loop-place
invariant-loop-place l = ChangesRowTo l.form l.new_form l.initial.room l.room l.fn.len l.at l.end

abbrev pub decreases-loop-place : goal.decreases-loop-place
decreases-loop-place l = length l.room - l.at
