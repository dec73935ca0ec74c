use Rattle.std.proofs.Common.{refl}
use Rattle.rtp_ext.proofs.MapLemmas.{IsRenumbered-same, IsRenumbered-then, AreRemapped-more}
use Rattle.rtp_ext.proofs.map.ExtensionMap.remap.Goals as goal

pub loop-id-init : goal.loop-id-init
loop-id-init c = (λ new all. all, IsRenumbered-same _ _ refl)

pub loop-id-preserved : goal.loop-id-preserved
loop-id-preserved c = (
  λ new rest. c.loop-id.invariant.0 new
      (AreRemapped-more (λ step. (step.0, step.1.now)) c.args.steps.now c.loop-id.id-index new c.loop-id-test.true c.loop-id-item.is c.remap_one.ensures.step rest),
  IsRenumbered-then _ _ _ c.loop-id.invariant.1 c.remap_one.ensures.renumbered,
)
