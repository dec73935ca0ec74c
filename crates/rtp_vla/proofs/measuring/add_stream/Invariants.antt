use Rattle.rtp_vla.proofs.Common.{◌≡◌, ◌≤◌, ◌+◌, ◌*◌, ◌++◌, List, drop, length, true, filter, list_all, Layer, is_active, mask_of, bare_or_active}
use Rattle.rtp_vla.specs.Measuring.{AreMeasured}
use Rattle.rtp_vla.proofs.measuring.add_stream.Given as goal

-- the layers that were taken fit, with this mask, and the active ones are measured
abbrev pub invariant-loop-layer : goal.invariant-loop-layer
invariant-loop-layer g l = record {
  joined : l.layers ++ drop (length l.layers) l.initial.layers ≡ l.initial.layers;
  mask : l.mask ≡ mask_of (drop (length l.layers) l.initial.layers);
  fits : list_all bare_or_active (drop (length l.layers) l.initial.layers) ≡ true;
  small : l.mask ≤ 15;
  active : l.measure.active ≡ l.initial.measure.active + length (filter is_active (drop (length l.layers) l.initial.layers));
  few : l.measure.len ≤ 41 * l.measure.active;
  measured : (after : List Layer) → AreMeasured after l.initial.measure.active l.initial.measure.len l.initial.measure.is_sized
      → AreMeasured (filter is_active (drop (length l.layers) l.initial.layers) ++ after) l.measure.active l.measure.len l.measure.is_sized;
}

abbrev pub decreases-loop-layer : goal.decreases-loop-layer
decreases-loop-layer g l = length l.layers
