use Rattle.rtp_vla.proofs.Common.{◌≡◌, ◌+◌, ◌-◌, ◌∷◌, ap, sym, refl, ◌∙◌, subst, ℕ, List, length, drop, map, arith, Some, slice_get, option_map, and_from, list_all, length-map, Stream, active_layers, mask_of, stream_fits, true}
use Rattle.std.proofs.Common.{length-drop}
use Rattle.std.proofs.lemmas.Option.{slice_get-map, slice_get_read}
use Rattle.rtp_vla.specs.Measuring.{AreMeasured}
use Rattle.rtp_vla.proofs.AllocationWritingLemmas.{length-active}
use Rattle.rtp_vla.proofs.MeasuringLemmas.{drop_with, drop_set, unfit_streams, if_none}
use Rattle.rtp_vla.proofs.measuring.measure_streams.Goals as goal
use Rattle.rtp_vla.proofs.measuring.measure_streams.Goals.{After-layers}

-- the stream that stands at the index
at : (g : _) (c : After-layers g) → slice_get (map g.S.Layered.stream c.args.streams.now) (c.loop-i.i - 1) ≡ Some c.layers.result
at g c = slice_get-map g.S.Layered.stream c.args.streams.now (c.loop-i.i - 1) ∙ ap (option_map g.S.Layered.stream) (slice_get_read c.args.streams.now (length c.args.streams.now) (c.loop-i.i - 1) c.index-streams-i.result refl (omega (arith, c.loop-i.invariant.within)) c.index-streams-i.is) ∙ ap (λ (s : Stream). Some s) (sym c.layers.ensures)

pub returns-in_err-masks-clause-unfit : goal.returns-in_err-masks-clause-unfit
returns-in_err-masks-clause-unfit g c =
    let streams = map g.S.Layered.stream c.args.streams.now in
    let next : c.loop-i.i ≡ c.loop-i.i - 1 + 1 = omega (arith, c.loop-i-test.true) in
    if_none c.from_residual.result
    (unfit_streams streams (c.loop-i.i - 1) c.layers.result (at g (goal.at.returns-in_err-masks-clause-unfit g c).After-layers)
    (c.in_err-masks.ensures.unfit (active_layers (drop (c.loop-i.i - 1 + 1) streams))
    (subst (λ (n : ℕ). AreMeasured (active_layers (drop n streams)) c.loop-i.measure.active c.loop-i.measure.len c.loop-i.measure.is_sized) next c.loop-i.invariant.measured)))

pub loop-i-preserved : goal.loop-i-preserved
loop-i-preserved g c =
    let streams = map g.S.Layered.stream c.args.streams.now in
    let i = c.loop-i.i - 1 in
    let next : i + 1 ≡ c.loop-i.i = omega (arith, c.loop-i-test.true) in
    let here : drop i streams ≡ c.layers.result ∷ drop c.loop-i.i streams =
    drop_with streams i c.layers.result (at g (goal.at.loop-i-preserved g c).After-layers) ∙ ap (λ (n : ℕ). c.layers.result ∷ drop n streams) next in
    let told = c.in_ok-masks.ensures.fits (active_layers (drop c.loop-i.i streams)) c.loop-i.invariant.measured in
    let fits : list_all stream_fits (drop i streams) ≡ true = ap (list_all stream_fits) here ∙ and_from _ _ told.0 c.loop-i.invariant.fits in
    let measured = subst (λ (ss : List Stream). AreMeasured (active_layers ss) c.add_stream.new.measure.active c.add_stream.new.measure.len c.add_stream.new.measure.is_sized) (sym here) told.2 in
    record {
      fits = fits;
      masks = drop_set c.loop-i.masks i c.in_ok-masks.field-0 (omega (arith, c.requires.len, c.loop-i.invariant.within))
          ∙ (λ j. told.1 j ∷ (ap (λ (n : ℕ). drop n c.loop-i.masks) next ∙ c.loop-i.invariant.masks) j)
          ∙ ap (map mask_of) (sym here);
      measured = measured;
      within = omega (arith, measured.active_is, length-active (drop i streams) fits, length-drop i streams, length-map c.args.streams.now g.S.Layered.stream, c.loop-i.invariant.within);
      few = c.in_ok-masks.ensures.few.1;
    }
