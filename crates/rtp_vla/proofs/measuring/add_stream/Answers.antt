use Rattle.rtp_vla.proofs.Common.{rules, ◌≡◌, ◌<◌, ◌≤◌, ◌∷◌, ◌++◌, [], ap, sym, ◌∙◌, subst, length, drop, arith, List, true, length-append, filter, is_active, and_left, Layer}
use Rattle.rtp_vla.specs.Measuring.{AreMeasured}
use Rattle.rtp_vla.proofs.AllocationWritingLemmas.{mask_unfit}
use Rattle.rtp_vla.proofs.MeasuringLemmas.{taken_more, unfit_stream, few_below, filter_active, if_none}
use Rattle.rtp_vla.proofs.measuring.add_stream.Goals as goal

pub returns-then-mask-gt7-clause-unfit : goal.returns-then-mask-gt7-clause-unfit
returns-then-mask-gt7-clause-unfit g c after measured =
    let left = c.loop-layer.layers in
    let some : 0 < length left = omega (arith, ap length c.in-Some.ensures.found, length-append c.next_back.new.self (c.in-Some.layer ∷ [])) in
    let within : length left ≤ length c.args.layers = omega (arith, ap length c.loop-layer.invariant.joined, length-append left (drop (length left) c.args.layers)) in
    and_left _ _ (mask_unfit (length left) c.loop-layer.mask c.args.layers some within c.loop-layer.invariant.mask (omega arith))

pub add-requires-clause-active : goal.add-requires-clause-active
add-requires-clause-active g c =
    let taken = drop (length c.loop-layer.layers) c.args.layers in
    omega (arith, c.requires.active, c.loop-layer.invariant.active, few_below taken (omega (arith, c.loop-layer.invariant.mask, c.if-mask-gt7.false)))

pub returns-in_err-add-clause-unfit : goal.returns-in_err-add-clause-unfit
returns-in_err-add-clause-unfit g c after measured =
    let taken = drop (length c.loop-layer.layers) c.args.layers in
    let more = taken_more c.loop-layer.layers c.next_back.new.self taken c.args.layers c.in-Some.layer c.loop-layer.invariant.joined c.in-Some.ensures.found in
    let active : is_active c.in-Some.layer ≡ true = search rules in
    if_none c.from_residual.result
    (unfit_stream c.next_back.new.self taken c.args.layers after c.in-Some.layer more.1 active
    (c.in_err-add.ensures.unfit (filter is_active taken ++ after) (c.loop-layer.invariant.measured after measured)))

pub loop-layer-preserved : goal.loop-layer-preserved
loop-layer-preserved g c =
    let taken = drop (length c.loop-layer.layers) c.args.layers in
    let layer = c.in-Some.layer in
    let so_far = c.loop-layer.invariant in
    let more = taken_more c.loop-layer.layers c.next_back.new.self taken c.args.layers layer so_far.joined c.in-Some.ensures.found in
    let active : is_active layer ≡ true = search rules in
    record {
      joined = ap (λ (ls : List Layer). c.next_back.new.self ++ ls) more.0 ∙ sym more.1;
      mask = search rules;
      fits = search rules;
      small = search rules;
      active = omega (arith, c.in_ok-add.ensures.active, so_far.active, ap (λ (ls : List Layer). length (filter is_active ls)) more.0, ap length (filter_active layer taken active));
      few = search rules;
      measured = λ after measured.
          subst (λ (ls : List Layer). AreMeasured (ls ++ after) c.add.new.self.active c.add.new.self.len c.add.new.self.is_sized)
          (sym (ap (filter is_active) more.0 ∙ filter_active layer taken active))
          (c.in_ok-add.ensures.fits (filter is_active taken ++ after) (so_far.measured after measured));
    }
