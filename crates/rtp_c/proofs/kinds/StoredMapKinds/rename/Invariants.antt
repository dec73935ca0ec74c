use Rattle.rtp_c.proofs.Common.{◌≡◌, extension_of_kind, IsRenamedTo, kind_number, numbered_slots}
use Rattle.rtp_c.proofs.kinds.StoredMapKinds.rename.Given as goal

-- the ids that were passed have their new bytes
abbrev pub invariant-loop-id : goal.invariant-loop-id
invariant-loop-id l =
    IsRenamedTo (numbered_slots l.self.kind) (extension_of_kind l.fn.from) (extension_of_kind l.fn.to) l.lowest l.initial.ids l.ids l.id
    × (l.from ≡ kind_number l.fn.from) × (l.to ≡ kind_number l.fn.to)
