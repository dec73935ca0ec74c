use Rattle.std.proofs.Common.{sym, ap, arith}
use Rattle.rtp_values.specs.declared.value.values.ExtensionValues.{ExtensionValues}
use Rattle.rtp_values.proofs.ValueLemmas.{measured-allocation}
use Rattle.rtp_values.proofs.value.carried_layers.CarriedLayers.layers_len.Goals as goal

pub returns : goal.returns
returns g c =
    measured-allocation c.args.self.now c.self.inside.layers c.wire_len.result (ap (λ (values : ExtensionValues). values.video_layers_allocation) (sym c.self.view_is))
    c.wire_len.ensures.writable c.wire_len.ensures.length (omega (arith, c.wire_len.ensures.length, c.self.invariant.1))
