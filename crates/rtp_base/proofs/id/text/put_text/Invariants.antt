use Rattle.rtp_base.proofs.IdTextLemmas.{KeptSoFar}
use Rattle.rtp_base.proofs.id.text.put_text.Given as goal

-- the bytes so far are kept
abbrev pub invariant-loop-byte : goal.invariant-loop-byte
invariant-loop-byte l = KeptSoFar l.text l.initial.bytes l.bytes l.len l.byte-index
