use Rattle.rtp_ext.proofs.Common.{◌≡◌, ◌+◌, ◌≤◌, length, items_from}
use Rattle.rtp_ext.proofs.map.ExtensionMap.len.Given as goal

-- those that were counted and those that are left are all
abbrev pub invariant-loop : goal.invariant-loop
invariant-loop l = (l.count + length l.iterator' ≡ length (items_from 0 l.self)) × (length (items_from 0 l.self) ≤ 255)
