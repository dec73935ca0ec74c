use Rattle.rtp_route.proofs.NumberLemmas.{AreNumbered}
use Rattle.rtp_route.proofs.numbers.number_elements.Given as goal

-- those before the index have their numbers
abbrev pub invariant-loop-index : goal.invariant-loop-index
invariant-loop-index g l = AreNumbered (g.L.ElementList.elements l.elements) l.index l.numbers
