use Rattle.rtp_base.proofs.IdTextLemmas.{AsciiSoFar}
use Rattle.rtp_base.proofs.id.text.put_ascii.Given as goal

-- the bytes so far are kept
abbrev pub invariant-loop-index : goal.invariant-loop-index
invariant-loop-index l = AsciiSoFar l.text l.initial.bytes l.bytes l.index
