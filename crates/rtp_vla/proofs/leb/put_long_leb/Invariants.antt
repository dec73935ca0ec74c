use Rattle.rtp_vla.proofs.Common.{◌+◌, ◌-◌, ◌^◌, ◌<◌, ◌≤◌, leb_of, shortest_of, Leaves}
use Rattle.rtp_vla.proofs.leb.put_long_leb.Given as goal

-- what is left is put after the bytes so far
abbrev pub invariant-loop-left : goal.invariant-loop-left
invariant-loop-left l = record {
  leaves : Leaves l.buf l.end (leb_of (9 - (l.end - l.at)) l.left) l.initial.buf l.at (shortest_of l.fn.value);
  below : l.left < 128 ^ (9 - (l.end - l.at));
  after : l.at ≤ l.end;
  few : l.end ≤ l.at + 8;
}

abbrev pub decreases-loop-left : goal.decreases-loop-left
decreases-loop-left l = l.left
