use Rattle.rtp_vla.proofs.Common.{◌≡◌, ◌≤◌, ◌+◌, ◌*◌, drop, length, map, true, list_all, active_layers, mask_of, stream_fits}
use Rattle.rtp_vla.specs.Measuring.{AreMeasured}
use Rattle.rtp_vla.proofs.measuring.measure_streams.Given as goal

-- the streams from this one on fit, with these masks, and their active layers are measured
abbrev pub invariant-loop-i : goal.invariant-loop-i
invariant-loop-i g l = record {
  fits : list_all stream_fits (drop l.i (map g.S.Layered.stream l.streams)) ≡ true;
  masks : drop l.i l.masks ≡ map mask_of (drop l.i (map g.S.Layered.stream l.streams));
  measured : AreMeasured (active_layers (drop l.i (map g.S.Layered.stream l.streams))) l.measure.active l.measure.len l.measure.is_sized;
  within : l.measure.active + 4 * l.i ≤ 4 * length l.streams;
  few : l.measure.len ≤ 41 * l.measure.active;
}

abbrev pub decreases-loop-i : goal.decreases-loop-i
decreases-loop-i g l = l.i
