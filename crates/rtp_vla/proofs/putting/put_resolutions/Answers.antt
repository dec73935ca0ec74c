use Rattle.rtp_vla.proofs.Common.{◌≡◌, ◌++◌, [], ◌∙◌, ap, sym, refl, arith, List, ◌+◌, length, length-append, length-map, drop, drop_all, map, Some, slice_get, option_map, filter, flat_map, Stream, is_active, active_layers, HasSizedResolution, resolution_bytes}
use Rattle.std.proofs.lemmas.Option.{slice_get-map, slice_get_read}
use Rattle.rtp_vla.proofs.LeavingLemmas.{Leaves-part, Leaves-end}
use Rattle.rtp_vla.proofs.PuttingLemmas.{all_from, bytes_from}
use Rattle.rtp_vla.proofs.putting.put_resolutions.Goals as goal
use Rattle.rtp_vla.proofs.putting.put_resolutions.Goals.{After-layers}

-- the stream that stands at the index
at : (g : _) (c : After-layers g) → slice_get (map g.S.Layered.stream c.args.streams.now) c.loop-stream.stream-index ≡ Some c.layers.result
at g c = slice_get-map g.S.Layered.stream c.args.streams.now c.loop-stream.stream-index ∙ ap (option_map g.S.Layered.stream) (slice_get_read c.args.streams.now (length c.args.streams.now) c.loop-stream.stream-index c.stream-item.result refl c.loop-stream-test.true c.stream-item.is) ∙ ap (λ (s : Stream). Some s) (sym c.layers.ensures)

pub put_stream_resolutions-end-requires-clause-some : goal.put_stream_resolutions-end-requires-clause-some
put_stream_resolutions-end-requires-clause-some g c =
    (all_from HasSizedResolution (map g.S.Layered.stream c.args.streams.now) c.loop-stream.stream-index c.layers.result (at g (goal.at.put_stream_resolutions-end-requires-clause-some g c).After-layers) c.loop-stream.invariant.some).0

pub put_stream_resolutions-end-requires-clause-room : goal.put_stream_resolutions-end-requires-clause-room
put_stream_resolutions-end-requires-clause-room g c =
    let streams = map g.S.Layered.stream c.args.streams.now in
    let i = c.loop-stream.stream-index in
    omega (
      arith,
      c.loop-stream.invariant.leaves.room,
      ap length (bytes_from resolution_bytes streams i c.layers.result (at g (goal.at.put_stream_resolutions-end-requires-clause-room g c).After-layers)),
      length-append (flat_map resolution_bytes (filter is_active c.layers.result)) (flat_map resolution_bytes (active_layers (drop (i + 1) streams))),
    )

pub loop-stream-preserved : goal.loop-stream-preserved
loop-stream-preserved g c =
    let so_far = c.loop-stream.invariant in
    let streams = map g.S.Layered.stream c.args.streams.now in
    let i = c.loop-stream.stream-index in
    let here = at g (goal.at.loop-stream-preserved g c).After-layers in
    let split : flat_map resolution_bytes (active_layers (drop i streams)) ≡ flat_map resolution_bytes (filter is_active c.layers.result) ++ flat_map resolution_bytes (active_layers (drop (i + 1) streams)) =
    bytes_from resolution_bytes streams i c.layers.result here in
    record {
      leaves = Leaves-part c.loop-stream.buf c.put_stream_resolutions-end.new.buf _ _ _ _ c.loop-stream.end c.put_stream_resolutions-end.result c.args.at (rw split at so_far.leaves)
          c.put_stream_resolutions-end.ensures.written c.put_stream_resolutions-end.ensures.end;
      some = (all_from HasSizedResolution streams i c.layers.result here so_far.some).1;
    }

pub returns-clause-written : goal.returns-clause-written
returns-clause-written g c =
    let streams = map g.S.Layered.stream c.args.streams.now in
    let i = c.loop-stream.stream-index in
    let none : flat_map resolution_bytes (active_layers (drop i streams)) ≡ [] =
    ap (λ (ss : List Stream). flat_map resolution_bytes (active_layers ss)) (drop_all i streams (omega (arith, c.loop-stream-test.false, length-map c.args.streams.now g.S.Layered.stream))) in
    (Leaves-end _ _ _ _ _ (rw none at c.loop-stream.invariant.leaves)).0
