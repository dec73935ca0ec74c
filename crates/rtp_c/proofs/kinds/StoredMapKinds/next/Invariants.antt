use Rattle.rtp_c.proofs.Common.{◌≡◌, ◌≤◌, ◌+◌, ◌-◌, take, drop, items_from, numbered_slots, last_end}
use Rattle.rtp_c.proofs.kinds.StoredMapKinds.next.Given as goal

-- the ids so far are mapped to nothing
abbrev pub invariant-loop-slot : goal.invariant-loop-slot
invariant-loop-slot l =
    (items_from l.initial.at (drop l.initial.at (take (last_end l.initial.end) (numbered_slots l.self.kind)))
    ≡ items_from l.slot (drop l.slot (take (last_end l.slots) (numbered_slots l.self.kind))))
    × (l.slots ≤ 255)
    × (l.end ≤ 255)

abbrev pub decreases-loop-slot : goal.decreases-loop-slot
decreases-loop-slot l = (255 - l.slot) + (255 - l.slots)
