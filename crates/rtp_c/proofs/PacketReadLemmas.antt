-- What is known of a packet that was read, or not.
use Rattle.rtp_c.proofs.Common.{◌≡◌, ◌≢◌, ◌↔◌, ℤ, List, ℕ, sym, ◌∙◌, subst, inl, inr, PacketParts, IsPacket, IsNoPacket, IsNoPacket-applies, no_packet-refused, one_packet, IsViewOf, IsPacketRead, ok}
use Rattle.rtp_wire.proofs.PacketLemmas.{no_packet}
use Rattle.rtp_c.specs.declared.packet.PacketView.{PacketView}
use Rattle.rtp_c.proofs.StatusLemmas.{ok≢cause}

pub parts_told : (bytes : List ℕ) (status : ℤ) (old new : PacketView) (parts : PacketParts) → IsPacketRead bytes status old new → IsPacket bytes parts
    → (status ≡ ok) × IsViewOf bytes parts new
parts_told bytes status old new parts (inl is) packet =
    (is.0, subst (λ (p : PacketParts). IsViewOf bytes p new) (sym (one_packet bytes is.1.0 is.1.1) ∙ one_packet bytes parts packet) is.1.2)
parts_told bytes status old new parts (inr is) packet = absurd (no_packet bytes is.0.cause parts is.0.is_first.applies packet)

pub refused_told : (bytes : List ℕ) (status : ℤ) (old new : PacketView) → IsPacketRead bytes status old new → (status ≢ ok) ↔ IsNoPacket bytes
refused_told bytes status old new (inl is) = (λ not_ok. absurd (not_ok is.0), λ none. absurd (no_packet-refused bytes is.1.0 none is.1.1))
refused_told bytes status old new (inr is) = (λ _. IsNoPacket-applies bytes is.0.cause is.0.is_first.applies, λ _ same. ok≢cause is.0.cause (sym same ∙ is.0.status_is))
