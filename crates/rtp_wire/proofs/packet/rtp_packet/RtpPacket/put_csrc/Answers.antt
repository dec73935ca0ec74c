use Rattle.rtp_wire.proofs.Common.{arith, w32, from_be_bytes}
use Rattle.rtp_wire.proofs.GroupLemmas.{set_slot}
use Rattle.rtp_wire.proofs.packet.rtp_packet.RtpPacket.put_csrc.Goals as goal

pub loop-slot-preserved : goal.loop-slot-preserved
loop-slot-preserved c =
    set_slot (from_be_bytes w32) c.groups-groups.result.now c.loop-slot.slots _ c.loop-slot.slot c.from_be_bytes.result
    c.loop-slot-test.true (omega arith) c.from_be_bytes.ensures c.loop-slot.invariant
