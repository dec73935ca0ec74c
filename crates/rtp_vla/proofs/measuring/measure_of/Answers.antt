use Rattle.rtp_vla.proofs.Common.{◌≡◌, ◌∙◌, ◌∷◌, [], true, length, ap, arith, List, ◌+◌, ◌/◌, ◌++◌, take, drop, subst, map, ℕ, take_at, length-map, Allocation, mask_of, shared_of}
use Rattle.rtp_vla.specs.AllocationWritten.{mask_bytes, can_be_written, written_of}
use Rattle.rtp_vla.specs.Measuring.{IsMeasureOf}
use Rattle.rtp_vla.proofs.AllocationWritingLemmas.{measured}
use Rattle.rtp_vla.proofs.measuring.measure_of.Goals as goal

pub returns-clause-fits : goal.returns-clause-fits
unfolding written_of
returns-clause-fits g c =
    let index = c.v.inside.index in
    let streams = map g.S.Layered.stream c.v.inside.streams.now in
    let count = length-map c.v.inside.streams.now g.S.Layered.stream in
    let layers = c.in_ok-layers.layers in
    let told = c.in_ok-layers.ensures.fits in
    let masks : c.measure_streams.new.masks ≡ map mask_of streams = c.in_ok-layers.ensures.masks in
    let rest : List ℕ = drop (length c.v.inside.streams.now) (0 ∷ 0 ∷ 0 ∷ 0 ∷ []) in
    let len : length c.measure_streams.new.masks ≡ length c.v.inside.streams.now = omega (arith, ap length masks, length-map streams mask_of, count) in
    let own : take (length c.v.inside.streams.now) (c.measure_streams.new.masks ++ rest) ≡ map mask_of streams = take_at c.measure_streams.new.masks rest (length c.v.inside.streams.now) len ∙ masks in
    let spelled : c.masks_len.result ≡ length (mask_bytes (map mask_of streams)) = c.masks_len.ensures.len ∙ ap (λ (ms : List ℕ). length (mask_bytes ms)) own in
    let whole = measured index streams c.masks_len.result ((layers.active + 3) / 4 + layers.len) (omega (arith, count)) (omega arith) (omega (arith, count)) told.0 told.1.fit spelled (omega (arith, told.1.active_is, told.1.len_is)) in
    subst (λ (a : Allocation). (can_be_written a ≡ true) × IsMeasureOf a (c.measure_streams.new.masks ++ rest) c.shared_of-shared.result layers.active (1 + c.masks_len.result + (layers.active + 3) / 4 + layers.len)) c.v.view_is (
      whole.0,
      record {
        are_masks = record {
          masks_are = ap (λ (n : ℕ). take n (c.measure_streams.new.masks ++ rest)) count ∙ own;
          shared_is = c.shared_of-shared.ensures ∙ ap (λ (ms : List ℕ). shared_of ms) own;
          active_is = told.1.active_is;
        };
        len_is = omega (arith, whole.1);
      },
    )
