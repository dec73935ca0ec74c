use Rattle.rtp_c.proofs.Common.{◌+◌}
use Rattle.rtp_c.proofs.LeftOutLemmas.{AreBitsBelow}
use Rattle.rtp_c.proofs.left_out.bits_of.Given as goal

-- the bits so far are those of the kinds so far
abbrev pub invariant-loop-kind : goal.invariant-loop-kind
invariant-loop-kind l = AreBitsBelow l.fn.kinds (l.kind-index + 1) l.bits
