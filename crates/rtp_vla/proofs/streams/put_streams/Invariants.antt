use Rattle.rtp_vla.proofs.Common.{◌≡◌, ◌≤◌, ◌++◌, List, drop, length, Allocation, Stream, dealt_streams, active_count}
use Rattle.rtp_vla.proofs.streams.put_streams.Given as goal

-- the streams so far stand after the others, and with those of the masks that are left they are all of them
abbrev pub invariant-loop-mask : goal.invariant-loop-mask
invariant-loop-mask g l =
    (done : List Stream)
    × ((a : Allocation) → g.L.SetLayers.shows l.initial.layers a
    → g.L.SetLayers.shows l.layers (record a { simulcast_streams = a.simulcast_streams ++ done }))
    × (done ++ dealt_streams (drop l.mask-index l.masks) l.left ≡ dealt_streams l.masks l.initial.left)
    × (active_count (drop l.mask-index l.masks) ≤ length l.left)
    × (length (drop l.mask-index l.masks) ≤ g.L.SetLayers.stream_room l.layers)
