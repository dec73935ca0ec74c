use Rattle.rtp_values.specs.declared.known_kind.KnownKind.{KnownKind}
use Rattle.std.proofs.Common.{length}
use Rattle.rtp_ext.specs.ExtensionMap.{items_from}
use Rattle.rtp_ext.specs.KindsById.{known_slots}
use Rattle.rtp_ext.proofs.LeftOutLemmas.{IsLeftSoFar}
use Rattle.rtp_ext.proofs.left_out.values_left_out.Given as goal

-- of each kind: it is in the set and no item that is left has data for it, exactly where it has a value and none of all items has
abbrev pub invariant-loop-kind : goal.invariant-loop-kind
invariant-loop-kind g l =
    (k : KnownKind) → IsLeftSoFar (g.V.ElementValues.values l.ev) (items_from 0 (known_slots l.ids)) l.items l.left k

abbrev pub decreases-loop-kind : goal.decreases-loop-kind
decreases-loop-kind g l = length l.items
