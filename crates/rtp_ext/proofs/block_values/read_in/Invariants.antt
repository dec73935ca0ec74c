use Rattle.rtp_ext.proofs.Common.{length, IsReadPastRow}
use Rattle.rtp_ext.proofs.block_values.read_in.Given as goal

-- the elements that were passed were read, and no row of allocations was left within
abbrev pub invariant-loop-id : goal.invariant-loop-id
invariant-loop-id g l = IsReadPastRow g.V.SetValues.shows (g.K.Kinds.known l.exts) l.initial.elements l.elements l.initial.ev l.ev

abbrev pub decreases-loop-id : goal.decreases-loop-id
decreases-loop-id g l = length l.elements
