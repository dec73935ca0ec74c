use Rattle.rtp_vla.proofs.Common.{length, filter, AllByRecursion, flat_map, is_active, HasSizedResolution, resolution_bytes, Leaves}
use Rattle.rtp_vla.proofs.putting.put_stream_resolutions.Given as goal

-- what is left is put after the bytes so far
abbrev pub invariant-loop-layer : goal.invariant-loop-layer
invariant-loop-layer g l = record {
  leaves : Leaves l.buf l.end (flat_map resolution_bytes (filter is_active l.layers)) l.initial.buf l.at (flat_map resolution_bytes (filter is_active l.initial.layers));
  some : AllByRecursion HasSizedResolution (filter is_active l.layers);
}

abbrev pub decreases-loop-layer : goal.decreases-loop-layer
decreases-loop-layer g l = length (filter is_active l.layers)
