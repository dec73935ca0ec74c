use Rattle.rtp_ext.proofs.CopiedLemmas.{IsCopiedTo}
use Rattle.rtp_ext.proofs.slots.copy.Given as goal

-- the slots that were passed are copied, and the others are empty yet
abbrev pub invariant-loop-index : goal.invariant-loop-index
invariant-loop-index l = IsCopiedTo l.from l.to l.index
