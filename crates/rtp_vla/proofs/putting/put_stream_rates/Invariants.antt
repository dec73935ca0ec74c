use Rattle.rtp_vla.proofs.Common.{◌≡◌, ◌+◌, length, filter, AllByRecursion, flat_map, is_active, IsCounted, HasSmallRates, count_bits, weight_after, rate_bytes, Leaves}
use Rattle.rtp_vla.proofs.putting.put_stream_rates.Given as goal

-- what is left is put after the bytes so far, and its counts are added to those so far
abbrev pub invariant-loop-layer : goal.invariant-loop-layer
invariant-loop-layer g l = record {
  leaves : Leaves l.buf l.end (flat_map rate_bytes (filter is_active l.layers)) l.initial.buf l.at (flat_map rate_bytes (filter is_active l.initial.layers));
  fit : AllByRecursion IsCounted (filter is_active l.layers);
  small : AllByRecursion HasSmallRates (filter is_active l.layers);
  bits : l.counts.bits + count_bits l.counts.weight (filter is_active l.layers)
      ≡ l.initial.counts.bits + count_bits l.initial.counts.weight (filter is_active l.initial.layers);
  weight : weight_after l.counts.weight (filter is_active l.layers) ≡ weight_after l.initial.counts.weight (filter is_active l.initial.layers);
}

abbrev pub decreases-loop-layer : goal.decreases-loop-layer
decreases-loop-layer g l = length (filter is_active l.layers)
