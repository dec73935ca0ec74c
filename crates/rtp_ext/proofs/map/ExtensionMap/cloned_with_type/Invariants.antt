use Rattle.rtp_ext.proofs.CopiedLemmas.{IsOfMediumBut}
use Rattle.rtp_ext.proofs.map.ExtensionMap.cloned_with_type.Given as goal

-- the ids that were passed have their entries, and the others none yet
abbrev pub invariant-loop-id : goal.invariant-loop-id
invariant-loop-id l = IsOfMediumBut l.audio l.self l.id-iterator l.exts
