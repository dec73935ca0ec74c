use Rattle.rtp_vla.proofs.Common.{◌≡◌, ◌+◌, ◌-◌, ◌≤◌, ◌++◌, vec_len, vec_capacity, rates_of, after_rates}
use Rattle.rtp_vla.proofs.parts.VecTemporalLayerAllocationRates.put_rates.Given as goal

-- the rates so far and those that are left are all of them
abbrev pub invariant-loop-i : goal.invariant-loop-i
invariant-loop-i l = record {
  rates : l.self.items ++ rates_of (l.count - l._i) l.after ≡ rates_of l.count l.bytes;
  after : after_rates (l.count - l._i) l.after ≡ after_rates l.count l.bytes;
  room : vec_len l.self + (l.count - l._i) ≤ vec_capacity l.self;
}
