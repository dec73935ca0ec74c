use Rattle.std.proofs.Common.{◌≡◌, ◌+◌, ◌++◌, take}
use Rattle.rtp_listing.proofs.text.put_bytes.Given as goal

-- the bytes so far are put behind the text
abbrev pub invariant-loop-i : goal.invariant-loop-i
invariant-loop-i l = take (l.at + l.i) l.text ≡ take l.at l.initial.text ++ take l.i l.bytes
