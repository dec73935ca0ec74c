use Rattle.std.proofs.Common.{arith, [], get_or}
use Rattle.rtp_c.proofs.SettingLemmas.{shows_stream, layer_room-new}
use Rattle.rtp_c.proofs.layers.LayersSetLayers.put_stream.Goals as goal

pub returns-clause-put : goal.returns-clause-put
returns-clause-put c a is = rw (c.clear_stream.ensures.cleared (record { layers = []; count = 0 })) (rw c.from.ensures (shows_stream a c.args.self.now (record { layers = []; count = 0 }) (omega (arith, c.clear_stream.ensures.places, c.requires)) is))

pub returns-clause-layers : goal.returns-clause-layers
returns-clause-layers c =
    rw (c.clear_stream.ensures.cleared (record { layers = []; count = 0 })) (rw c.from.ensures (omega (arith, layer_room-new c.args.self.now.count c.args.self.now.streams (record (get_or c.args.self.now.streams c.args.self.now.count (record { layers = []; count = 0 })) { count = 0 }) (omega (arith, c.clear_stream.ensures.places, c.requires)))))
