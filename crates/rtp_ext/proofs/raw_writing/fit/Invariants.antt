use Rattle.rtp_ext.proofs.Common.{◌↔◌, drop, AreWritableIn}
use Rattle.rtp_ext.proofs.raw_writing.fit.Given as goal

-- the elements that are left fit what is left of the room exactly where all fit the room
abbrev pub invariant-loop-index : goal.invariant-loop-index
invariant-loop-index g l =
    AreWritableIn l.form (drop l.index (g.L.ElementList.elements l.elements)) l.left
    ↔ AreWritableIn l.form (g.L.ElementList.elements l.elements) l.room
