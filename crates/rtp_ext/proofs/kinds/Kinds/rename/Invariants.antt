use Rattle.rtp_ext.proofs.Common.{◌≤◌, length, extension_of_kind}
use Rattle.rtp_ext.proofs.RenamesLemmas.{IsRenamedBut}
use Rattle.rtp_ext.proofs.kinds.Kinds.rename.Given as goal

-- the ids that were passed have their new bytes, and the others the old ones
abbrev pub invariant-loop-id : goal.invariant-loop-id
invariant-loop-id g l =
    IsRenamedBut (g.Self.Kinds.known l.self) (extension_of_kind l.from) (extension_of_kind l.to) l.lowest l.initial.ids l.ids (g.Self.Kinds.left l.self l.at l.end)
    × (l.end ≤ 255)

abbrev pub decreases-loop-id : goal.decreases-loop-id
decreases-loop-id g l = length (g.Self.Kinds.left l.self l.at l.end)
