use Rattle.std.proofs.Common.{None, refl, subst}
use Rattle.rtp_values.specs.declared.value.values.ExtensionValues.{ExtensionValues}
use Rattle.rtp_values.specs.declared.kind.Extension.TheVariants.{VideoLayersAllocation}
use Rattle.rtp_values.specs.KindBytes.{WritesData}
use Rattle.rtp_c.proofs.given_values.GivenValuesGetValues.write_layers.Goals as goal

pub returns : goal.returns
returns c =
    subst (λ (values : ExtensionValues). WritesData VideoLayersAllocation values c.args._buf.now c.args._buf.now None) c.self.view_is
    (record { length_is = refl; written = refl; read_back = tt; few = tt })
