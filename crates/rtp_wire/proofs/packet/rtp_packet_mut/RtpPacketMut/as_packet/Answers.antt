use Rattle.rtp_wire.proofs.Common.{subst, List, ℕ, parts_at, IsPacket}
use Rattle.rtp_wire.proofs.PartsLemmas.{IsPacket-found}
use Rattle.rtp_wire.proofs.packet.rtp_packet_mut.RtpPacketMut.as_packet.Goals as goal

pub returns-clause-is_packet : goal.returns-clause-is_packet
returns-clause-is_packet c = subst (λ (bytes : List ℕ). IsPacket bytes (parts_at bytes)) c.new.ensures (IsPacket-found c.new.result)
