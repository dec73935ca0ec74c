use Rattle.std.proofs.Common.{◌∙◌, ap, Some}
use Rattle.rtp_values.specs.declared.value.values.ExtensionValues.{ExtensionValues}
use Rattle.rtp_values.specs.KnownKind.{extension_of_kind}
use Rattle.rtp_values.specs.Spelling.{has_no_data, spelled_data}
use Rattle.rtp_values.proofs.WithLayersLemmas.{no_data-other}
use Rattle.rtp_values.proofs.value.carried_layers.CarriedLayersElementValues.has_empty_data.Goals as goal

pub returns : goal.returns
returns g c =
    c.has_empty_data.ensures ∙ no_data-other c.args.kind (g.V.ElementValues.values c.self.inside.values.now) (Some c.self.inside.layers)
    ∙ ap (λ (values : ExtensionValues). has_no_data (spelled_data (extension_of_kind c.args.kind) values)) c.self.view_is
