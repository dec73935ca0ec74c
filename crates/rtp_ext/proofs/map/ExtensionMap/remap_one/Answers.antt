use Rattle.rtp_ext.proofs.Common.{arith, refl, subst, false≢true, IsId, IsLowest, locked_elsewhere}
use Rattle.rtp_ext.proofs.MapLemmas.{IsRenumbered-same, IsStep, IsStep-locked, IsStep-moved}
use Rattle.rtp_ext.proofs.map.ExtensionMap.remap_one.Goals as goal

pub returns-then-id-eq0-clause-renumbered : goal.returns-then-id-eq0-clause-renumbered
returns-then-id-eq0-clause-renumbered c = IsRenumbered-same _ _ refl

pub returns-in_default-clause-renumbered : goal.returns-in_default-clause-renumbered
returns-in_default-clause-renumbered c = IsRenumbered-same _ _ refl

pub returns-then-lowest-id-clause-renumbered : goal.returns-then-lowest-id-clause-renumbered
returns-then-lowest-id-clause-renumbered c =
    let lowest = c.in-Some.ensures in
    let is_id : IsId c.args.id = (omega (arith, c.if-id-eq0.false), omega (arith, c.ranges.id.fits)) in
    let found = subst (IsLowest c.args.self.now c.args.ext.now) c.if-lowest-id.true lowest.found in
    let step = IsStep-locked c.lock.new.self is_id found (record { this = c.lock.ensures.this; others = c.lock.ensures.others }) in
    step.renumbered

pub returns-then-is_locked-clause-step : goal.returns-then-is_locked-clause-step
returns-then-is_locked-clause-step c =
    let lowest = c.in-Some.ensures in
    let told = c.if-is_locked.ensures in
    let is_id : IsId c.args.id = (omega (arith, c.if-id-eq0.false), omega (arith, c.ranges.id.fits)) in
    locked_elsewhere c.in-Some.lowest is_id lowest.found c.if-lowest-id.false (told.0 refl) refl

pub returns-then-is_locked-clause-renumbered : goal.returns-then-is_locked-clause-renumbered
returns-then-is_locked-clause-renumbered c = IsRenumbered-same _ _ refl

-- the step that moves the entry
moved_step : (c : goal.After-lock-2) → IsStep c.args.self.now c.lock-2.new.self c.args.id c.args.ext.now
moved_step c =
    let told = c.if-is_locked.ensures in
    let is_id : IsId c.args.id = (omega (arith, c.if-id-eq0.false), omega (arith, c.ranges.id.fits)) in
    IsStep-moved is_id c.in-Some.ensures.found c.if-lowest-id.false
    (λ is_locked. false≢true (told.1 is_locked)) c.exchange.ensures c.lock-2.ensures

pub returns-clause-step : goal.returns-clause-step
returns-clause-step c = (moved_step c).step

pub returns-clause-renumbered : goal.returns-clause-renumbered
returns-clause-renumbered c = (moved_step c).renumbered
