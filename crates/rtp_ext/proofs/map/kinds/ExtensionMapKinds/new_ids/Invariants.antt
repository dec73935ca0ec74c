use Rattle.rtp_ext.proofs.NewBytesLemmas.{HasNewBytesBut}
use Rattle.rtp_ext.proofs.map.kinds.ExtensionMapKinds.new_ids.Given as goal

-- the ids that were passed have their new ids, and those that are mapped to nothing none
abbrev pub invariant-loop-id : goal.invariant-loop-id
invariant-loop-id l = HasNewBytesBut l.self l.other l.id-iterator l.ids
