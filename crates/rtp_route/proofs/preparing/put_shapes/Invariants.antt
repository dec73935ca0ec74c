use Rattle.std.proofs.Common.{◌≡◌, length, take}
use Rattle.rtp_route.specs.StoredGroup.{blank, blank_elements}
use Rattle.rtp_route.proofs.preparing.put_shapes.Given as goal

-- those before the index are put
abbrev pub invariant-loop-index : goal.invariant-loop-index
invariant-loop-index g l =
    (length l.ids ≡ 16) × (length l.lens ≡ 16) × (take l.index (blank_elements l.ids l.lens) ≡ blank (take l.index (g.L.ElementList.elements l.elements)))
