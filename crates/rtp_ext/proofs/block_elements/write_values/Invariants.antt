use Rattle.rtp_ext.proofs.Common.{length, items_from, known_slots}
use Rattle.rtp_ext.proofs.WrittenBlockLemmas.{IsUnderWay}
use Rattle.rtp_ext.proofs.block_elements.write_values.Given as goal

-- the elements so far are written
abbrev pub invariant-loop-id : goal.invariant-loop-id
invariant-loop-id g l =
    IsUnderWay l.form (g.V.ElementValues.values l.ev) l.initial.buf l.buf (items_from 0 (known_slots l.ids)) l.items l.at

abbrev pub decreases-loop-id : goal.decreases-loop-id
decreases-loop-id g l = length l.items
