use Rattle.rtp_ext.proofs.Common.{◌≤◌, length, HasNoIdAbove}
use Rattle.rtp_ext.proofs.slots.last_id.Given as goal

-- no id above is mapped
abbrev pub invariant-loop-last : goal.invariant-loop-last
invariant-loop-last l = HasNoIdAbove l.last l.slots × (l.last ≤ length l.slots)

abbrev pub decreases-loop-last : goal.decreases-loop-last
decreases-loop-last l = l.last
