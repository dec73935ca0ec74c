use Rattle.rtp_vla.proofs.Common.{◌≡◌, ◌-◌, ◌++◌, take, rates_of, after_rates}
use Rattle.rtp_vla.proofs.UpToLemmas.{ArePadded}
use Rattle.rtp_vla.proofs.up_to.UpToTemporalLayerAllocation4Rates.put_rates.Given as goal

-- the rates so far and those that are left are all of them
abbrev pub invariant-loop-i : goal.invariant-loop-i
invariant-loop-i l = record {
  rates : take l.i l.self-inside.items ++ rates_of (l.count - l.i) l.after ≡ rates_of l.count l.bytes;
  after : after_rates (l.count - l.i) l.after ≡ after_rates l.count l.bytes;
  places : ArePadded 4 0 l.self-inside.items l.i;
}
