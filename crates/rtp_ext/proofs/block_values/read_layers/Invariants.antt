use Rattle.rtp_ext.proofs.Common.{◌≡◌, false, map, Option, is_some, IfSome, Allocation, VideoLayersAllocation, no_values, AreFields}
use Rattle.rtp_ext.proofs.block_values.read_layers.Given as goal

-- the allocation is that of the elements that were passed, and where they have none what is there stays
abbrev pub invariant-loop-id : goal.invariant-loop-id
invariant-loop-id g l =
    (known : Option Allocation)
    × AreFields (g.K.Kinds.known l.exts) (map (λ item. (item.0, item.1.now)) l.yielded) VideoLayersAllocation no_values (record no_values { video_layers_allocation = known })
    × (l.found ≡ is_some known)
    × IfSome known (g.L.SetLayers.shows l.layers)
    × (l.found ≡ false → l.layers ≡ l.initial.layers)
