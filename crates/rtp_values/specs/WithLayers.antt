-- Values whose layer allocation is in a value of fixed size.
use Rattle.std.specs.Option.{option_copied}
use Rattle.rtp_values.specs.declared.value.values.ExtensionValues.{ExtensionValues}
use Rattle.rtp_values.specs.declared.value.with_layers.WithLayers.{WithLayers}

-- the values that are lent, with the layers that are lent in place of their allocation
abbrev pub values_with_layers : WithLayers → ExtensionValues
values_with_layers given = record given.values.now { video_layers_allocation = option_copied given.layers }
