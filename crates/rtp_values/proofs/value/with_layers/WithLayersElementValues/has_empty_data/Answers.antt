use Rattle.std.proofs.Common.{◌∙◌}
use Rattle.rtp_values.proofs.WithLayersLemmas.{no_data-other}
use Rattle.rtp_values.proofs.value.with_layers.WithLayersElementValues.has_empty_data.Goals as goal

pub returns : goal.returns
returns c = c.has_empty_data.ensures ∙ no_data-other c.args.kind _ _
