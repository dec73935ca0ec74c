use Rattle.std.proofs.Common.{drop}
use Rattle.rtp_ext.proofs.ServingFormLemmas.{AreCounted}
use Rattle.rtp_ext.proofs.form.ExtensionsForm.for_elements.Given as goal

-- the elements that were passed are counted
abbrev pub invariant-loop-index : goal.invariant-loop-index
invariant-loop-index g l =
    AreCounted l.fn.allowed (g.L.ElementList.elements l.elements) (drop l.index (g.L.ElementList.elements l.elements)) l.form l.room l.left
