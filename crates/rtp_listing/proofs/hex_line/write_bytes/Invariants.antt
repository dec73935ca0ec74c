use Rattle.rtp_listing.proofs.Common.{◌≡◌, ◌*◌, take, drop, decode_pairs}
use Rattle.hex.proofs.Pairs.{prepend}
use Rattle.rtp_listing.proofs.hex_line.write_bytes.Given as goal

-- the bytes so far, before those of the digits that are left
abbrev pub invariant-loop-i : goal.invariant-loop-i
invariant-loop-i l = decode_pairs 0 l.digits ≡ prepend (take l.i l.bytes) (decode_pairs (2 * l.i) (drop (2 * l.i) l.digits))
