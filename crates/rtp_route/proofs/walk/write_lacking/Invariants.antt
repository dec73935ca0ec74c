use Rattle.std.proofs.Common.{◌≡◌, ◌≤◌, ℕ, List, length}
use Rattle.rtp_ext.specs.Elements.{Element}
use Rattle.rtp_route.specs.Walk.{AreWritten}
use Rattle.rtp_route.proofs.WalkedLemmas.{IsUnderWay}
use Rattle.rtp_route.proofs.walk.write_lacking.Given as goal

-- those before the index are written
abbrev pub invariant-loop-index : goal.invariant-loop-index
invariant-loop-index g l =
    (l.end ≤ length l.buf)
    × (length l.buf ≡ length l.initial.buf)
    × ((start : ℕ) (old : List ℕ) (written : List Element) → 1 ≤ start → AreWritten l.form start (g.G.ElementList.elements l.group) old written l.initial.slots l.initial.buf l.fn.at
    → IsUnderWay l.form start (g.G.ElementList.elements l.group) l.index old written l.slots l.buf l.end)
