use Rattle.std.proofs.Common.{◌≡◌, take}
use Rattle.rtp_vla.proofs.allocation.VideoLayersAllocation.clone.Given as goal

-- the streams so far are copied
abbrev pub invariant-loop-stream : goal.invariant-loop-stream
invariant-loop-stream l = l.simulcast_streams.items ≡ take l.stream-index l.stream-items
