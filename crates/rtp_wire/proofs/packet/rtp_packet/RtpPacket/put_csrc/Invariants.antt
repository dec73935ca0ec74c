use Rattle.rtp_wire.proofs.Common.{◌≡◌, ◌++◌, take, drop, map, w32, from_be_bytes}
use Rattle.rtp_wire.proofs.packet.rtp_packet.RtpPacket.put_csrc.Given as goal

-- the numbers of the groups so far, and the slots after them as they were
abbrev pub invariant-loop-slot : goal.invariant-loop-slot
invariant-loop-slot l = l.slots ≡ map (from_be_bytes w32) (take l.slot l.groups) ++ drop l.slot l.initial.slots
