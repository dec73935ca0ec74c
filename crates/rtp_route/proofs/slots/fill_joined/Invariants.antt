use Rattle.std.proofs.Common.{◌≡◌, length, drop}
use Rattle.rtp_route.specs.Template.{slot_lengths, total_of, pieces, filled_in}
use Rattle.rtp_route.proofs.slots.fill_joined.Given as goal

-- with the data that are left the buffer is as with all
abbrev pub invariant-loop-index : goal.invariant-loop-index
invariant-loop-index g l =
    (filled_in (drop l.index (g.S.SlotList.slots l.slots)) (pieces (slot_lengths (drop l.index (g.S.SlotList.slots l.slots))) l.left) l.buf
    ≡ filled_in (g.S.SlotList.slots l.slots) (pieces (slot_lengths (g.S.SlotList.slots l.slots)) l.bytes) l.initial.buf)
    × (length l.buf ≡ length l.initial.buf)
    × (length l.left ≡ total_of (drop l.index (g.S.SlotList.slots l.slots)))
