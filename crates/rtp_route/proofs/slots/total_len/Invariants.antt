use Rattle.std.proofs.Common.{◌≡◌, ◌*◌, ◌≤◌, take}
use Rattle.rtp_route.specs.Template.{total_of}
use Rattle.rtp_route.proofs.slots.total_len.Given as goal

abbrev pub invariant-loop-slot : goal.invariant-loop-slot
invariant-loop-slot l = (l.total ≡ total_of (take l.slot-index l.slots)) × (l.total ≤ 4294967295 * l.slot-index)
