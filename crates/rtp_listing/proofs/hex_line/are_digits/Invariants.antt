use Rattle.rtp_listing.proofs.HexLineLemmas.{AreDigits}
use Rattle.rtp_listing.proofs.hex_line.are_digits.Given as goal

-- whether all so far are digits
abbrev pub invariant-loop-byte : goal.invariant-loop-byte
invariant-loop-byte l = AreDigits l.bytes l.byte-index l.past
