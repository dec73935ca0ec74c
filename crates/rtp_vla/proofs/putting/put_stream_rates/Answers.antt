use Rattle.rtp_vla.proofs.Common.{◌≡◌, ◌++◌, ◌∷◌, [], ◌∙◌, ap, sym, arith, List, ℕ, ◌+◌, ◌*◌, length, filter, flat_map, Layer, is_active, count_of, count_bits, weight_after, rate_bytes, shortest_of, overwritten}
use Rattle.rtp_vla.proofs.LeavingLemmas.{Leaves-part, Leaves-end}
use Rattle.rtp_vla.proofs.AllocationWritingLemmas.{AllByRecursion-tail}
use Rattle.rtp_vla.proofs.putting.put_stream_rates.Goals as goal

pub loop-layer-preserved : goal.loop-layer-preserved
loop-layer-preserved g c =
    let so_far = c.loop-layer.invariant in
    let layer = c.in-Some.layer in
    let weight = c.loop-layer.counts.weight in
    let rest = filter is_active c.next_active.new.self in
    let is : filter is_active c.loop-layer.layers ≡ layer ∷ rest = c.in-Some.ensures.found in
    let split : flat_map rate_bytes (filter is_active c.loop-layer.layers) ≡ rate_bytes layer ++ flat_map rate_bytes rest = ap (flat_map rate_bytes) is in
    let bytes : flat_map shortest_of c.layer.inside.temporal_layers.now ≡ rate_bytes layer = ap rate_bytes c.layer.view_is in
    let count : c.saturating_sub.result ≡ count_of layer = omega (arith, c.saturating_sub.ensures, ap (λ (l : Layer). length l.temporal_layers) c.layer.view_is) in
    record {
      leaves = Leaves-part c.loop-layer.buf c.put_layer_rates-end.new.buf _ _ _ _ c.loop-layer.end c.put_layer_rates-end.result c.args.at (rw split at so_far.leaves)
          (c.put_layer_rates-end.ensures.written ∙ ap (overwritten c.loop-layer.buf c.loop-layer.end) bytes)
          (c.put_layer_rates-end.ensures.end ∙ ap (λ (bs : List ℕ). c.loop-layer.end + length bs) bytes);
      fit = AllByRecursion-tail _ _ _ is so_far.fit;
      small = AllByRecursion-tail _ _ _ is so_far.small;
      bits = omega (arith, c.add.ensures.bits, ap (λ (n : ℕ). n * weight) count, ap (λ (n : ℕ). count_bits n rest) c.add.ensures.weight, ap (count_bits weight) is, so_far.bits);
      weight = ap (λ (n : ℕ). weight_after n rest) c.add.ensures.weight ∙ sym (ap (weight_after weight) is) ∙ so_far.weight;
    }

pub returns-clause-written : goal.returns-clause-written
returns-clause-written g c =
    let none : flat_map rate_bytes (filter is_active c.loop-layer.layers) ≡ [] = ap (flat_map rate_bytes) c.in_default.ensures.none.0 in
    (Leaves-end _ _ _ _ _ (rw none at c.loop-layer.invariant.leaves)).0
