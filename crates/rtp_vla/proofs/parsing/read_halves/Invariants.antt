use Rattle.rtp_vla.proofs.Common.{◌≡◌, take, halves}
use Rattle.rtp_vla.proofs.parsing.read_halves.Given as goal

-- the masks so far are read
abbrev pub invariant-loop-i : goal.invariant-loop-i
invariant-loop-i l = take l.i l.masks ≡ take l.i (halves l.spelled)
