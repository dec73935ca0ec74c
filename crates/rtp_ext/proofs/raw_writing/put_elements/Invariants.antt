use Rattle.std.proofs.Common.{drop}
use Rattle.rtp_ext.proofs.RawWritingLemmas.{AreUnderWay}
use Rattle.rtp_ext.proofs.raw_writing.put_elements.Given as goal

-- the elements that were passed are written
abbrev pub invariant-loop-index : goal.invariant-loop-index
invariant-loop-index g l =
    AreUnderWay l.form l.initial.buf l.buf (g.L.ElementList.elements l.elements) (drop l.index (g.L.ElementList.elements l.elements)) l.at
