use Rattle.rtp_ext.proofs.Common.{◌≡◌, ◌+◌, ◌≤◌, length, items_from}
use Rattle.rtp_ext.proofs.iter.IterIterator.next.Given as goal

-- the slots that were passed are of no mapped id
abbrev pub invariant-loop-slot : goal.invariant-loop-slot
invariant-loop-slot l =
    (items_from l.self-inside.passed l.self-inside.left.now ≡ items_from l.initial.self-inside.passed l.initial.self-inside.left.now)
    × (l.self-inside.passed + length l.self-inside.left.now ≤ 255)

abbrev pub decreases-loop-slot : goal.decreases-loop-slot
decreases-loop-slot l = length l.self-inside.left.now
