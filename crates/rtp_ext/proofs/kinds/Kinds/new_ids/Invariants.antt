use Rattle.rtp_ext.proofs.NewIdLemmas.{HasNewBytesTo}
use Rattle.rtp_ext.proofs.kinds.Kinds.new_ids.Given as goal

-- the ids that were passed have their new ids
abbrev pub invariant-loop-id : goal.invariant-loop-id
invariant-loop-id g l = HasNewBytesTo (g.Self.Kinds.slots l.self) (g.Self.Kinds.slots l.other) l.new-items l.id
