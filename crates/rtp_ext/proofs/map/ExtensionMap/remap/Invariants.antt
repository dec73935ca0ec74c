use Rattle.rtp_ext.proofs.Common.{drop, map, Slots, AreRemapped, IsRenumbered}
use Rattle.rtp_ext.proofs.map.ExtensionMap.remap.Given as goal

-- what the steps that are left would leave is what all the steps would
abbrev pub invariant-loop-id : goal.invariant-loop-id
invariant-loop-id l =
    ((new : Slots) → AreRemapped l.self (drop l.id-index (map (λ step. (step.0, step.1.now)) l.steps)) new
    → AreRemapped l.initial.self (map (λ step. (step.0, step.1.now)) l.steps) new)
    × IsRenumbered l.initial.self l.self
