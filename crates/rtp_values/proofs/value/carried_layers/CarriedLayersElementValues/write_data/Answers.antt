use Rattle.std.proofs.Common.{Some, subst}
use Rattle.rtp_values.specs.declared.value.values.ExtensionValues.{ExtensionValues}
use Rattle.rtp_values.specs.KnownKind.{extension_of_kind}
use Rattle.rtp_values.specs.KindBytes.{WritesData}
use Rattle.rtp_values.proofs.WithLayersLemmas.{WritesData-other}
use Rattle.rtp_values.proofs.value.carried_layers.CarriedLayersElementValues.write_data.Goals as goal

pub returns-in_default : goal.returns-in_default
returns-in_default g c =
    subst (λ (values : ExtensionValues). WritesData (extension_of_kind c.args.kind) values c.args.buf.now c.write_data.new.buf c.write_data.result) c.self.view_is
    (WritesData-other c.args.kind (g.V.ElementValues.values c.self.inside.values.now) (Some c.self.inside.layers) c.in_default.not-VideoLayersAllocation c.write_data.ensures)
