use Rattle.rtp_vla.proofs.Common.{◌≡◌, ◌-◌, ◌^◌, ◌<◌, ◌≤◌, drop, leb_number, weighed}
use Rattle.rtp_vla.proofs.leb.long_number_at.Given as goal

-- the bytes that were passed gave the value so far, and the rest gives what it weighs
abbrev pub invariant-loop-i : goal.invariant-loop-i
invariant-loop-i l = record {
  read : leb_number 9 l.buf ≡ weighed l.value l.weight l.i (leb_number (9 - l.i) (drop l.i l.buf));
  weight_is : l.weight ≡ 128 ^ l.i;
  below : l.value < l.weight;
  few : l.i ≤ 8;
}
