use Rattle.rtp_ext.proofs.Common.{drop, length, extension_of_kind, items_from, slots_of}
use Rattle.rtp_ext.proofs.RenamedIdLemmas.{AreLeft}
use Rattle.rtp_ext.proofs.kinds_by_id.KindsById.lowest_id.Given as goal

-- the ids of the kind are left
abbrev pub invariant-loop-id : goal.invariant-loop-id
invariant-loop-id l = AreLeft (slots_of l.self) (extension_of_kind l.kind) (items_from l.passed (drop l.passed (slots_of l.self)))

abbrev pub decreases-loop-id : goal.decreases-loop-id
decreases-loop-id l = length (items_from l.passed (drop l.passed (slots_of l.self)))
