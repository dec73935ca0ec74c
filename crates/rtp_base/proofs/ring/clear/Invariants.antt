use Rattle.rtp_base.proofs.Common.{◌≡◌, ℕ, ◌+◌, ◌-◌, ◌<◌, ◌≤◌, false, ring_bit, ring_size}
use Rattle.rtp_base.proofs.ring.clear.Given as goal

abbrev pub invariant-loop-number : goal.invariant-loop-number
invariant-loop-number l = record {
  low : l.first ≤ l.number;
  high : l.number ≤ l.end;
  near : l.end < l.first + ring_size l.initial.words;
  cleared : (n : ℕ) → l.first ≤ n → n < l.number → ring_bit l.words n ≡ false;
  others : (n : ℕ) → l.number ≤ n → n < l.first + ring_size l.initial.words → ring_bit l.words n ≡ ring_bit l.initial.words n;
}

abbrev pub decreases-loop-number : goal.decreases-loop-number
decreases-loop-number l = l.end - l.number
