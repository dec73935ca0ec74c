use Rattle.std.proofs.Common.{◌≡◌, length, false}
use Rattle.rtp_ext.specs.BlockValues.{ShowsApart}
use Rattle.rtp_ext.specs.LastAllocation.{IsReadTo}
use Rattle.rtp_ext.proofs.block_values.read_apart_in.Given as goal

-- the elements that were passed were read into both, and where they give no allocation the layers stay
abbrev pub invariant-loop-id : goal.invariant-loop-id
invariant-loop-id g l =
    IsReadTo (ShowsApart g.V.SetValues.shows g.L.SetLayers.shows) (g.K.Kinds.known l.exts) l.initial.elements l.elements
    (l.initial.ev, l.initial.layers, false) (l.ev, l.layers, l.found)
    × (l.found ≡ false → l.layers ≡ l.initial.layers)

abbrev pub decreases-loop-id : goal.decreases-loop-id
decreases-loop-id g l = length l.elements
