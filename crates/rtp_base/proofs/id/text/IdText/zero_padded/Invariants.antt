use Rattle.rtp_base.proofs.Common.{◌≡◌, ◌++◌, map, take, drop}
use Rattle.rtp_base.proofs.IdLemmas.{without_space}
use Rattle.rtp_base.proofs.id.text.IdText.zero_padded.Given as goal

-- the bytes so far have a zero in place of each space
abbrev pub invariant-loop-i : goal.invariant-loop-i
invariant-loop-i g l = l.bytes ≡ map without_space (take l.i l.initial.bytes) ++ drop l.i l.initial.bytes
