use Rattle.rtp_ext.proofs.Common.{◌-◌, length, ids_of, HasOtherIdsTo}
use Rattle.rtp_ext.proofs.place.change_ids_in.Given as goal

-- the elements up to the offset have their new ids
abbrev pub invariant-loop-place : goal.invariant-loop-place
invariant-loop-place l = HasOtherIdsTo l.form (ids_of l.change) l.initial.body l.body l.at l.lost

abbrev pub decreases-loop-place : goal.decreases-loop-place
decreases-loop-place l = length l.body - l.at
