use Rattle.rtp_route.proofs.FormsLemmas.{AreMeasuredTo}
use Rattle.rtp_route.proofs.tabled.measured.Given as goal

-- so much is measured of the elements before the index
abbrev pub invariant-loop-index : goal.invariant-loop-index
invariant-loop-index g l = AreMeasuredTo (g.L.ElementList.elements l.elements) l.index l.len l.fits_one_byte
