use Rattle.rtp_vla.proofs.Common.{◌≡◌, ◌++◌, ◌∷◌, [], ◌∙◌, ap, List, ℕ, ◌+◌, length, filter, flat_map, is_active, resolution_bytes, resolution_field, overwritten}
use Rattle.rtp_vla.proofs.LeavingLemmas.{Leaves-part, Leaves-end}
use Rattle.rtp_vla.proofs.AllocationWritingLemmas.{AllByRecursion-tail}
use Rattle.rtp_vla.proofs.putting.put_stream_resolutions.Goals as goal

pub loop-layer-preserved : goal.loop-layer-preserved
loop-layer-preserved g c =
    let layer = c.in-Some.layer in
    let rest = filter is_active c.next_active.new.self in
    let is : filter is_active c.loop-layer.layers ≡ layer ∷ rest = c.in-Some.ensures.found in
    let split : flat_map resolution_bytes (filter is_active c.loop-layer.layers) ≡ resolution_bytes layer ++ flat_map resolution_bytes rest = ap (flat_map resolution_bytes) is in
    let bytes : resolution_field c.layer.inside.resolution_and_framerate ≡ resolution_bytes layer = ap resolution_bytes c.layer.view_is in
    record {
      leaves = Leaves-part c.loop-layer.buf c.put_resolution-end.new.buf _ _ _ _ c.loop-layer.end c.put_resolution-end.result c.args.at (rw split at c.loop-layer.invariant.leaves)
          (c.put_resolution-end.ensures.written ∙ ap (overwritten c.loop-layer.buf c.loop-layer.end) bytes)
          (c.put_resolution-end.ensures.end ∙ ap (λ (bs : List ℕ). c.loop-layer.end + length bs) bytes);
      some = AllByRecursion-tail _ _ _ is c.loop-layer.invariant.some;
    }

pub returns-clause-written : goal.returns-clause-written
returns-clause-written g c =
    let none : flat_map resolution_bytes (filter is_active c.loop-layer.layers) ≡ [] = ap (flat_map resolution_bytes) c.in_default.ensures.none.0 in
    (Leaves-end _ _ _ _ _ (rw none at c.loop-layer.invariant.leaves)).0
