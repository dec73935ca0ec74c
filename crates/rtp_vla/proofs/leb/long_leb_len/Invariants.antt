use Rattle.rtp_vla.proofs.Common.{◌≡◌, ◌+◌, ◌-◌, ◌^◌, ◌<◌, ◌≤◌, length, leb_of, shortest_of}
use Rattle.rtp_vla.proofs.leb.long_leb_len.Given as goal

-- the bytes so far and those of what is left are all of them
abbrev pub invariant-loop-left : goal.invariant-loop-left
invariant-loop-left l = record {
  all : l.len + length (leb_of (10 - l.len) l.left) ≡ length (shortest_of l.fn.value) + 1;
  below : l.left < 128 ^ (10 - l.len);
  some : 1 ≤ l.len;
  few : l.len ≤ 9;
}

abbrev pub decreases-loop-left : goal.decreases-loop-left
decreases-loop-left l = l.left
