use Rattle.rtp_vla.proofs.Common.{◌≡◌, ◌*◌, ◌≤◌, take, active_count}
use Rattle.rtp_vla.proofs.parts.active_count.Given as goal

-- the layers of the masks so far, at most four each
abbrev pub invariant-loop-mask : goal.invariant-loop-mask
invariant-loop-mask l = record {
  active : l.active ≡ active_count (take l.mask-index l.masks);
  few : l.active ≤ 4 * l.mask-index;
}
