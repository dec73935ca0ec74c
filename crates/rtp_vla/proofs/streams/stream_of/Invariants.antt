use Rattle.rtp_vla.proofs.Common.{◌≤◌, ◌+◌, drop, length, vec_len, vec_capacity, DealsOn, dealt, marks_of, active_in}
use Rattle.rtp_vla.proofs.streams.stream_of.Given as goal

-- the layers so far and those of the marks that are left are all of them
abbrev pub invariant-loop-marks : goal.invariant-loop-marks
invariant-loop-marks l = record {
  deals : DealsOn l.spatial_layers.items (marks_of l.marks) l.left (dealt (marks_of l.initial.mask) l.initial.left) (drop (active_in l.initial.mask) l.initial.left);
  fits : l.marks ≤ 15;
  room : vec_len l.spatial_layers + length (marks_of l.marks) ≤ vec_capacity l.spatial_layers;
}

abbrev pub decreases-loop-marks : goal.decreases-loop-marks
decreases-loop-marks l = l.marks
