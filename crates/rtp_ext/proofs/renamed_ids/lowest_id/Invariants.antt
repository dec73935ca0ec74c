use Rattle.rtp_ext.proofs.Common.{length, extension_of_kind, known_slots}
use Rattle.rtp_ext.proofs.RenamedIdLemmas.{AreLeft}
use Rattle.rtp_ext.proofs.renamed_ids.lowest_id.Given as goal

-- the ids of the kind are left
abbrev pub invariant-loop-id : goal.invariant-loop-id
invariant-loop-id g l = AreLeft (known_slots l.ids) (extension_of_kind l.kind) l.items

abbrev pub decreases-loop-id : goal.decreases-loop-id
decreases-loop-id g l = length l.items
