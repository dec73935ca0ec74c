use Rattle.rtp_vla.proofs.Common.{◌≡◌, ◌≤◌, ◌++◌, drop, length, vec_len, vec_capacity, dealt_streams, active_count}
use Rattle.rtp_vla.proofs.streams.streams_of.Given as goal

-- the streams so far and those of the masks that are left are all of them
abbrev pub invariant-loop-mask : goal.invariant-loop-mask
invariant-loop-mask l = record {
  streams : l.streams.items ++ dealt_streams (drop l.mask-index l.masks) l.left ≡ dealt_streams l.masks l.initial.left;
  enough : active_count (drop l.mask-index l.masks) ≤ length l.left;
  len : vec_len l.streams ≡ l.mask-index;
  room : vec_capacity l.streams ≡ length l.masks;
}
