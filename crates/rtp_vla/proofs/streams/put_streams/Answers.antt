use Rattle.rtp_vla.proofs.Common.{◌++◌, ◌∷◌, ℕ, List, [], arith, ap, get_or, length, drop_more, length-drop, dealt, marks_of, active_in, active_count}
use Rattle.rtp_vla.proofs.SettingLemmas.{streams_more, shown_more}
use Rattle.rtp_vla.proofs.streams.put_streams.Goals as goal

pub loop-mask-preserved : goal.loop-mask-preserved
loop-mask-preserved g c =
    let so_far = c.loop-mask.invariant in
    let masks = c.args.masks.now in
    let i = c.loop-mask.mask-index in
    let next = drop_more masks i 0 c.loop-mask-test.true in (
      so_far.0 ++ dealt (marks_of (get_or masks i 0)) c.loop-mask.left ∷ [],
      λ a shown. shown_more (g.L.SetLayers.shows c.put_layers.new.layers) a so_far.0 _ (c.put_layers.ensures.put _ (c.put_stream.ensures.put _ (so_far.1 a shown))),
      streams_more so_far.0 masks i c.loop-mask.left _ _ c.loop-mask-test.true c.put_layers.ensures.left so_far.2,
      omega (arith, so_far.3, ap active_count next, ap length c.put_layers.ensures.left, length-drop (active_in (get_or masks i 0)) c.loop-mask.left),
      omega (arith, so_far.4, ap (λ (ms : List ℕ). length ms) next, c.put_stream.ensures.streams, c.put_layers.ensures.streams),
    )
