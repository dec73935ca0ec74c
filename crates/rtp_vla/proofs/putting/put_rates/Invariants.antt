use Rattle.rtp_vla.proofs.Common.{◌≡◌, ◌+◌, drop, map, AllByRecursion, flat_map, active_layers, IsCounted, HasSmallRates, count_bits, rate_bytes, Leaves}
use Rattle.rtp_vla.proofs.putting.put_rates.Given as goal

-- what is left is put after the bytes so far, and its counts are added to those so far
abbrev pub invariant-loop-stream : goal.invariant-loop-stream
invariant-loop-stream g l = record {
  leaves : Leaves l.buf l.end (flat_map rate_bytes (active_layers (drop l.stream-index (map g.S.Layered.stream l.streams)))) l.initial.buf l.at (flat_map rate_bytes (active_layers (map g.S.Layered.stream l.streams)));
  fit : AllByRecursion IsCounted (active_layers (drop l.stream-index (map g.S.Layered.stream l.streams)));
  small : AllByRecursion HasSmallRates (active_layers (drop l.stream-index (map g.S.Layered.stream l.streams)));
  bits : l.counts.bits + count_bits l.counts.weight (active_layers (drop l.stream-index (map g.S.Layered.stream l.streams)))
      ≡ l.initial.counts.bits + count_bits l.initial.counts.weight (active_layers (map g.S.Layered.stream l.streams));
}
