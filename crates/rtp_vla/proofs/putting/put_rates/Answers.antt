use Rattle.rtp_vla.proofs.Common.{◌≡◌, ◌++◌, [], ◌∙◌, ap, sym, refl, arith, List, ℕ, ◌+◌, length, length-append, length-map, drop, drop_all, map, Some, slice_get, option_map, filter, flat_map, Stream, is_active, active_layers, IsCounted, HasSmallRates, count_bits, rate_bytes}
use Rattle.std.proofs.lemmas.Option.{slice_get-map, slice_get_read}
use Rattle.rtp_vla.proofs.LeavingLemmas.{Leaves-part, Leaves-end}
use Rattle.rtp_vla.proofs.CountBitsLemmas.{count_bits-append}
use Rattle.rtp_vla.proofs.PuttingLemmas.{active_from, all_from, bytes_from}
use Rattle.rtp_vla.proofs.putting.put_rates.Goals as goal
use Rattle.rtp_vla.proofs.putting.put_rates.Goals.{After-layers}

-- the stream that stands at the index
at : (g : _) (c : After-layers g) → slice_get (map g.S.Layered.stream c.args.streams.now) c.loop-stream.stream-index ≡ Some c.layers.result
at g c = slice_get-map g.S.Layered.stream c.args.streams.now c.loop-stream.stream-index ∙ ap (option_map g.S.Layered.stream) (slice_get_read c.args.streams.now (length c.args.streams.now) c.loop-stream.stream-index c.stream-item.result refl c.loop-stream-test.true c.stream-item.is) ∙ ap (λ (s : Stream). Some s) (sym c.layers.ensures)

pub put_stream_rates-end-requires-clause-fit : goal.put_stream_rates-end-requires-clause-fit
put_stream_rates-end-requires-clause-fit g c =
    (all_from IsCounted (map g.S.Layered.stream c.args.streams.now) c.loop-stream.stream-index c.layers.result (at g (goal.at.put_stream_rates-end-requires-clause-fit g c).After-layers) c.loop-stream.invariant.fit).0

pub put_stream_rates-end-requires-clause-small : goal.put_stream_rates-end-requires-clause-small
put_stream_rates-end-requires-clause-small g c =
    (all_from HasSmallRates (map g.S.Layered.stream c.args.streams.now) c.loop-stream.stream-index c.layers.result (at g (goal.at.put_stream_rates-end-requires-clause-small g c).After-layers) c.loop-stream.invariant.small).0

pub put_stream_rates-end-requires-clause-room : goal.put_stream_rates-end-requires-clause-room
put_stream_rates-end-requires-clause-room g c =
    let streams = map g.S.Layered.stream c.args.streams.now in
    let i = c.loop-stream.stream-index in
    omega (
      arith,
      c.loop-stream.invariant.leaves.room,
      ap length (bytes_from rate_bytes streams i c.layers.result (at g (goal.at.put_stream_rates-end-requires-clause-room g c).After-layers)),
      length-append (flat_map rate_bytes (filter is_active c.layers.result)) (flat_map rate_bytes (active_layers (drop (i + 1) streams))),
    )

pub loop-stream-preserved : goal.loop-stream-preserved
loop-stream-preserved g c =
    let so_far = c.loop-stream.invariant in
    let streams = map g.S.Layered.stream c.args.streams.now in
    let i = c.loop-stream.stream-index in
    let weight = c.loop-stream.counts.weight in
    let here = at g (goal.at.loop-stream-preserved g c).After-layers in
    let first = filter is_active c.layers.result in
    let rest = active_layers (drop (i + 1) streams) in
    let split : flat_map rate_bytes (active_layers (drop i streams)) ≡ flat_map rate_bytes first ++ flat_map rate_bytes rest = bytes_from rate_bytes streams i c.layers.result here in
    record {
      leaves = Leaves-part c.loop-stream.buf c.put_stream_rates-end.new.buf _ _ _ _ c.loop-stream.end c.put_stream_rates-end.result c.args.at (rw split at so_far.leaves)
          c.put_stream_rates-end.ensures.written c.put_stream_rates-end.ensures.end;
      fit = (all_from IsCounted streams i c.layers.result here so_far.fit).1;
      small = (all_from HasSmallRates streams i c.layers.result here so_far.small).1;
      bits = omega (
        arith,
        so_far.bits,
        c.put_stream_rates-end.ensures.bits,
        ap (λ (n : ℕ). count_bits n rest) c.put_stream_rates-end.ensures.weight,
        ap (count_bits weight) (active_from streams i c.layers.result here),
        count_bits-append weight first rest,
      );
    }

pub returns-clause-written : goal.returns-clause-written
returns-clause-written g c =
    let streams = map g.S.Layered.stream c.args.streams.now in
    let i = c.loop-stream.stream-index in
    let none : flat_map rate_bytes (active_layers (drop i streams)) ≡ [] =
    ap (λ (ss : List Stream). flat_map rate_bytes (active_layers ss)) (drop_all i streams (omega (arith, c.loop-stream-test.false, length-map c.args.streams.now g.S.Layered.stream))) in
    (Leaves-end _ _ _ _ _ (rw none at c.loop-stream.invariant.leaves)).0
