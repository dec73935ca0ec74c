use Rattle.rtp_ext.proofs.Common.{◌≡◌, length, items_from, has_empty, known_slots}
use Rattle.rtp_ext.proofs.block_form.has_empty_data.Given as goal

-- the ids that are left decide
abbrev pub invariant-loop-kind : goal.invariant-loop-kind
invariant-loop-kind g l = has_empty l.items (g.V.ElementValues.values l.ev) ≡ has_empty (items_from 0 (known_slots l.ids)) (g.V.ElementValues.values l.ev)

abbrev pub decreases-loop-kind : goal.decreases-loop-kind
decreases-loop-kind g l = length l.items
