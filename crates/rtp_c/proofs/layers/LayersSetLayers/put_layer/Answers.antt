use Rattle.rtp_c.proofs.Common.{arith, [], Stream}
use Rattle.rtp_c.proofs.SettingLemmas.{shows_layer, layer_room-last, layer_room-more, layer_room-within}
use Rattle.rtp_c.proofs.layers.LayersSetLayers.put_layer.Goals as goal

pub push_layer-requires : goal.push_layer-requires
push_layer-requires c = rw c.from-stream.ensures (record {
  within = layer_room-within c.args.self.now.count c.args.self.now.streams c.requires;
  room = λ unused. omega (arith, c.requires, layer_room-last c.args.self.now.count c.args.self.now.streams unused c.requires);
})

pub returns-clause-put : goal.returns-clause-put
returns-clause-put c a stream is =
    let unused : Stream = record { layers = []; count = 0 } in
    let put = (rw c.from-stream.ensures at c.push_layer.ensures).put unused in
    rw put.1 (shows_layer a stream c.args.layer.now c.args.self.now unused put.0 (put.3 stream) is)

pub returns-clause-layers : goal.returns-clause-layers
returns-clause-layers c =
    let unused : Stream = record { layers = []; count = 0 } in
    let put = (rw c.from-stream.ensures at c.push_layer.ensures).put unused in
    rw put.1 (layer_room-more c.args.self.now.count c.args.self.now.streams unused put.0 c.requires put.2)
