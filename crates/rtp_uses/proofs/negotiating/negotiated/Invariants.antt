use Rattle.std.proofs.Common.{take, map}
use Rattle.rtp_uses.specs.Negotiating.{AreNegotiated}
use Rattle.rtp_uses.proofs.negotiating.negotiated.Given as goal

-- the map of the lines so far
abbrev pub invariant-loop-id : goal.invariant-loop-id
invariant-loop-id l = AreNegotiated (take l.id-index (map (λ line. (line.0, line.1.now)) l.lines)) l.exts
