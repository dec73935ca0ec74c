use Rattle.std.proofs.Common.{◌*◌, ◌-◌, ◌<◌, ◌≤◌}
use Rattle.rtp_receive.proofs.reception.in_256ths.Given as goal

-- the quotient is at least what was found, and less than what is above it
abbrev pub invariant-loop-above : goal.invariant-loop-above
invariant-loop-above l = record {
  order : l.found < l.above;
  high : l.above ≤ 256;
  low : l.found * l.whole ≤ 256 * l.part;
  below : 256 * l.part < l.above * l.whole;
}

abbrev pub decreases-loop-above : goal.decreases-loop-above
decreases-loop-above l = l.above - l.found
