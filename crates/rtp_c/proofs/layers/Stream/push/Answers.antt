use Rattle.rtp_c.proofs.Common.{arith, [], Layer}
use Rattle.rtp_c.proofs.SettingLemmas.{stream_more}
use Rattle.rtp_c.proofs.layers.Stream.push.Goals as goal

pub returns-clause-put : goal.returns-clause-put
returns-clause-put c stream is =
    let unused : Layer = record { kbps = []; width = 0; height = 0; framerate = 0; has_resolution = 0; rates = 0 } in
    let at = rw c.from.ensures at c.put_layer_at.ensures in
    let put = at.put unused in
    rw put.1 (stream_more stream c.args.layer.now c.args.self.now put.0 unused (omega (arith, c.requires, at.places)) put.2 is)
