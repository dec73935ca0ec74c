use Rattle.rtp_vla.proofs.Common.{drop, map, AllByRecursion, flat_map, active_layers, HasSizedResolution, resolution_bytes, Leaves}
use Rattle.rtp_vla.proofs.putting.put_resolutions.Given as goal

-- what is left is put after the bytes so far
abbrev pub invariant-loop-stream : goal.invariant-loop-stream
invariant-loop-stream g l = record {
  leaves : Leaves l.buf l.end (flat_map resolution_bytes (active_layers (drop l.stream-index (map g.S.Layered.stream l.streams)))) l.initial.buf l.at (flat_map resolution_bytes (active_layers (map g.S.Layered.stream l.streams)));
  some : AllByRecursion HasSizedResolution (active_layers (drop l.stream-index (map g.S.Layered.stream l.streams)));
}
