use Rattle.rtp_ext.proofs.Common.{length, ◌≡◌, EndsRow}
use Rattle.rtp_ext.proofs.block_values.last_in_row.Given as goal

-- the row has come to the elements that are left
abbrev pub invariant-loop-id : goal.invariant-loop-id
invariant-loop-id g l = EndsRow (g.K.Kinds.known l.exts) l.initial.first l.initial.elements l.elements l.last × (l.elements ≡ l.ahead)

abbrev pub decreases-loop-id : goal.decreases-loop-id
decreases-loop-id g l = length l.ahead
