use Rattle.rtp_ext.proofs.Common.{subst, AreValues, Slots, written_elements, image_values, no_values}
use Rattle.rtp_ext.proofs.map.ExtensionMap.write_to.Goals as goal

pub returns-clause-values : goal.returns-clause-values
returns-clause-values c =
    subst (λ (exts : Slots). AreValues exts (written_elements exts c.args.ev.now) no_values (image_values exts c.args.ev.now))
    c.of.ensures c.write_values.ensures.values
