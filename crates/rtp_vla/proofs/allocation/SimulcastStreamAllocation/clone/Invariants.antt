use Rattle.std.proofs.Common.{◌≡◌, take}
use Rattle.rtp_vla.proofs.allocation.SimulcastStreamAllocation.clone.Given as goal

-- the layers so far are copied
abbrev pub invariant-loop-layer : goal.invariant-loop-layer
invariant-loop-layer l = l.spatial_layers.items ≡ take l.layer-index l.layer-items
