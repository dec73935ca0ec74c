use Rattle.rtp_ext.proofs.Common.{◌≡◌, ◌-◌, ◌<◌, next_id, slots_of}
use Rattle.rtp_ext.proofs.NextIdLemmas.{AreSetFrom}
use Rattle.rtp_ext.proofs.kinds_by_id.set_next.Given as goal

-- the ids that were passed have their next one, which that below them has too
abbrev pub invariant-loop-below : goal.invariant-loop-below
invariant-loop-below l = AreSetFrom (slots_of l.kinds) l.id l.initial.next l.next l.below × (0 < l.below → l.to ≡ next_id (slots_of l.kinds) (l.below - 1))

abbrev pub decreases-loop-below : goal.decreases-loop-below
decreases-loop-below l = l.below
