use Rattle.rtp_c.proofs.Common.{◌<◌, ℕ, get_or, Element, IsWritable}
use Rattle.rtp_c.proofs.writing.can_carry_all.Given as goal

-- the form can carry each of the elements that were passed
abbrev pub invariant-loop-index : goal.invariant-loop-index
invariant-loop-index g l = (k : ℕ) (d : Element) → k < l.index → IsWritable l.form (get_or (g.L.ElementList.elements l.elements) k d)
