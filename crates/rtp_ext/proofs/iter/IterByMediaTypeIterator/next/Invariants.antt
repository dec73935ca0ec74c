use Rattle.rtp_ext.proofs.Common.{◌≡◌, length, filter, is_of_medium}
use Rattle.rtp_ext.proofs.iter.IterByMediaTypeIterator.next.Given as goal

-- the items that were passed are of the other medium
abbrev pub invariant-loop-id : goal.invariant-loop-id
invariant-loop-id l =
    (filter (λ item. is_of_medium l.self-inside.audio item.1) l.self-inside.all
    ≡ filter (λ item. is_of_medium l.initial.self-inside.audio item.1) l.initial.self-inside.all)
    × (l.self-inside.audio ≡ l.initial.self-inside.audio)

abbrev pub decreases-loop-id : goal.decreases-loop-id
decreases-loop-id l = length l.self-inside.all
