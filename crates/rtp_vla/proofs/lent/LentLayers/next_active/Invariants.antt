use Rattle.rtp_vla.proofs.Common.{◌≡◌, length, filter, is_active}
use Rattle.rtp_vla.proofs.lent.LentLayers.next_active.Given as goal

-- the layers that were passed aren't active
abbrev pub invariant-loop-layer : goal.invariant-loop-layer
invariant-loop-layer g l = filter is_active l.self ≡ filter is_active l.initial.self

abbrev pub decreases-loop-layer : goal.decreases-loop-layer
decreases-loop-layer g l = length l.self
