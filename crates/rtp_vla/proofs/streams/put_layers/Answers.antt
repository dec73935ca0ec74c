use Rattle.rtp_vla.proofs.Common.{◌∙◌, ◌++◌, ◌∷◌, ◌==◌, ◌%◌, [], List, refl, arith, subst, sym, Layer, Deals, and_stream}
use Rattle.rtp_vla.proofs.AllocationReadingLemmas.{active_next, few_marks, length-marks_of-more, deals_more, deals_all}
use Rattle.rtp_vla.proofs.streams.put_layers.Goals as goal

pub next-resolution_and_framerate-requires-clause-some : goal.next-resolution_and_framerate-requires-clause-some
next-resolution_and_framerate-requires-clause-some g c = active_next c.loop-marks.marks _ c.loop-marks.invariant.3 c.loop-marks-test.true c.loop-marks.invariant.2.enough

pub put_layer-requires : goal.put_layer-requires
put_layer-requires g c = omega (arith, c.loop-marks.invariant.4, length-marks_of-more c.loop-marks.marks c.loop-marks.invariant.3 c.loop-marks-test.true)

pub loop-marks-init : goal.loop-marks-init
loop-marks-init g c = ([], λ a shown. shown, record { stream = refl; others = refl; enough = c.requires.enough }, c.requires.fits, omega (arith, few_marks c.args.mask, c.requires.room), refl)

pub loop-marks-preserved : goal.loop-marks-preserved
loop-marks-preserved g c =
    let so_far = c.loop-marks.invariant in
    let deals = subst (λ (layer : Layer). Deals (c.loop-marks.marks % 2 == 1) c.loop-marks.left layer c.next-resolution_and_framerate.new.self) (sym c.of.ensures) c.next-resolution_and_framerate.ensures in (
      so_far.0 ++ c.of.result ∷ [],
      λ a shown. c.put_layer.ensures.put a so_far.0 (so_far.1 a shown),
      deals_more c.loop-marks.marks _ _ _ _ _ _ so_far.3 c.loop-marks-test.true deals so_far.2,
      omega (arith, so_far.3),
      omega (arith, so_far.4, c.put_layer.ensures.layers, length-marks_of-more c.loop-marks.marks so_far.3 c.loop-marks-test.true),
      c.put_layer.ensures.streams ∙ so_far.5,
    )

pub returns-clause-put : goal.returns-clause-put
returns-clause-put g c a shown =
    let done = deals_all c.loop-marks.marks _ _ _ _ (omega (arith, c.loop-marks-test.false)) c.loop-marks.invariant.2 in
    subst (λ (items : List Layer). g.L.SetLayers.shows c.loop-marks.layers (and_stream a items)) done.0 (c.loop-marks.invariant.1 a shown)

pub returns-clause-left : goal.returns-clause-left
returns-clause-left g c = (deals_all c.loop-marks.marks _ _ _ _ (omega (arith, c.loop-marks-test.false)) c.loop-marks.invariant.2).1
