use Rattle.rtp_vla.proofs.Common.{◌≡◌, ◌-◌, after_rates}
use Rattle.rtp_vla.proofs.parts.after_rates.Given as goal

-- what follows the rates that are left follows all of them
abbrev pub invariant-loop-i : goal.invariant-loop-i
invariant-loop-i l = after_rates (l.count - l._i) l.after ≡ after_rates l.count l.bytes
