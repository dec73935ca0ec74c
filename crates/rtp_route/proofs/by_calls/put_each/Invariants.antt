use Rattle.std.proofs.Common.{length, take}
use Rattle.rtp_route.proofs.NotPutLemmas.{ArePutTo}
use Rattle.rtp_route.proofs.by_calls.put_each.Given as goal

-- those before the index are put, and none of them is refused
abbrev pub invariant-loop-index : goal.invariant-loop-index
invariant-loop-index g l = ArePutTo l.group.allowed (take l.index (g.L.ElementList.elements l.elements)) (length l.initial.buf) (take l.fn.len l.initial.buf) l.buf l.len
