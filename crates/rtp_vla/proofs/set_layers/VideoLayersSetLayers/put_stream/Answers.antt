use Rattle.rtp_vla.proofs.Common.{ap, ◌∙◌, length, arith, Allocation, Stream, layer_room}
use Rattle.rtp_vla.proofs.SettingLemmas.{layer_room-last}
use Rattle.rtp_vla.proofs.set_layers.VideoLayersSetLayers.put_stream.Goals as goal

pub returns-clause-layers : goal.returns-clause-layers
returns-clause-layers c =
    let new = ap (λ (a : Allocation). layer_room a.simulcast_streams) c.push.ensures ∙ layer_room-last c.args.self.now.simulcast_streams c.new.result in
    omega (arith, new, ap (λ (s : Stream). length s) c.new.ensures)
