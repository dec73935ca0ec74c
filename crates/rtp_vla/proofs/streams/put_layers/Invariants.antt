use Rattle.rtp_vla.proofs.Common.{◌≡◌, ◌≤◌, List, [], drop, length, Allocation, Layer, DealsOn, and_stream, dealt, marks_of, active_in}
use Rattle.rtp_vla.proofs.streams.put_layers.Given as goal

-- the layers so far stand in the last stream, and with those of the marks that are left they are all of them
abbrev pub invariant-loop-marks : goal.invariant-loop-marks
invariant-loop-marks g l =
    (items : List Layer)
    × ((a : Allocation) → g.L.SetLayers.shows l.fn.layers (and_stream a []) → g.L.SetLayers.shows l.layers (and_stream a items))
    × DealsOn items (marks_of l.marks) l.left (dealt (marks_of l.fn.mask) l.fn.left) (drop (active_in l.fn.mask) l.fn.left)
    × (l.marks ≤ 15)
    × (length (marks_of l.marks) ≤ g.L.SetLayers.layer_room l.layers)
    × (g.L.SetLayers.stream_room l.layers ≡ g.L.SetLayers.stream_room l.fn.layers)

abbrev pub decreases-loop-marks : goal.decreases-loop-marks
decreases-loop-marks g l = l.marks
