use Rattle.rtp_vla.proofs.Common.{◌-◌, ◌↔◌, FitResolutions}
use Rattle.rtp_vla.proofs.parts.resolutions_fit.Given as goal

-- those so far fit
abbrev pub invariant-loop-i : goal.invariant-loop-i
invariant-loop-i l = FitResolutions (l.count - l._i) l.after ↔ FitResolutions l.count l.bytes
