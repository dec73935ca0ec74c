use Rattle.rtp_c.proofs.Common.{◌≡◌, ◌≤◌, ◌<◌, ◌+◌, ◌-◌, ℕ, get_or, None, kind_numbered}
use Rattle.rtp_c.proofs.kinds.StoredMap.past_unmapped.Given as goal

-- the slots so far are mapped to no kind
abbrev pub invariant-loop-slot : goal.invariant-loop-slot
invariant-loop-slot l =
    (l.initial.from ≤ l.slot) × (l.slot ≤ 255) × ((slot : ℕ) → l.initial.from ≤ slot → slot < l.slot → kind_numbered (get_or l.self.kind (slot + 1) 0) ≡ None)

abbrev pub decreases-loop-slot : goal.decreases-loop-slot
decreases-loop-slot l = 255 - l.slot
