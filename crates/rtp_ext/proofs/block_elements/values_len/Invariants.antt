use Rattle.rtp_ext.proofs.Common.{◌≡◌, ◌≤◌, ◌+◌, ◌*◌, length, items_from, mapped_count, items_bytes, known_slots}
use Rattle.rtp_ext.proofs.block_elements.values_len.Given as goal

-- the elements so far are counted, and those that are left stay within the bounds
abbrev pub invariant-loop-kind : goal.invariant-loop-kind
invariant-loop-kind g l =
    (l.len + length (items_bytes l.form (g.V.ElementValues.values l.ev) l.items) ≡ length (items_bytes l.form (g.V.ElementValues.values l.ev) (items_from 0 (known_slots l.ids))))
    × (l.len + 257 * length l.items ≤ 257 * mapped_count (known_slots l.ids))
    × (mapped_count (known_slots l.ids) ≤ 255)

abbrev pub decreases-loop-kind : goal.decreases-loop-kind
decreases-loop-kind g l = length l.items
