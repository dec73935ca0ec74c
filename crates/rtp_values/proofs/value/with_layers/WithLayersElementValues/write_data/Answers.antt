use Rattle.std.specs.Option.{option_copied}
use Rattle.rtp_values.proofs.WithLayersLemmas.{WritesData-other}
use Rattle.rtp_values.proofs.value.with_layers.WithLayersElementValues.write_data.Goals as goal

pub returns-in_default : goal.returns-in_default
returns-in_default c = WritesData-other c.args.kind c.args.self.now.values.now (option_copied c.args.self.now.layers) c.in_default.not-VideoLayersAllocation c.write_to.ensures
