use Rattle.rtp_ext.proofs.RenamedIdLemmas.{AreLeft}
use Rattle.rtp_ext.proofs.map.ExtensionMap.lowest_unknown.Given as goal

-- the ids of the extension are left
abbrev pub invariant-loop-id : goal.invariant-loop-id
invariant-loop-id l = AreLeft l.self l.ext l.id-iterator
