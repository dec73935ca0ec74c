-- The packet ids of datagrams: each has one, or none, and the same under each map.
use Rattle.rtp_wire.proofs.Common.{◌≡◌, ℕ, List, [], ◌∷◌, refl, sym, ap, ◌∙◌, Option, Some, None, PacketId, ExtensionMap, AreBytes, RtpHeader, PacketParts, IsPacket, header_of, IsWire, packet_id_of, IsPacketId, ArePacketIds}
use Rattle.rtp_wire.proofs.PacketLemmas.{one_packet}
use Rattle.rtp_wire.proofs.HeaderUnderEachMap.{header_found}

-- a packet's source and number are its packet id under each map
pub IsPacketId-packet : (datagram : List ℕ) (parts : PacketParts) (source low : ℕ) → AreBytes datagram → IsPacket datagram parts → parts.other_block ≡ None → source ≡ parts.ssrc → low ≡ parts.sequence_number
    → (exts : ExtensionMap) → IsPacketId exts datagram (Some (record { source = source; low = low }))
IsPacketId-packet datagram parts source low all is none source_is low_is exts =
    let found = header_found exts datagram parts all is none in
    record { header = header_of parts found.0; wire = found.1; packet_id_is = cc }

-- and what begins with no header has none
pub IsPacketId-none : (datagram : List ℕ) → ((parts : PacketParts) → IsPacket datagram parts → parts.other_block ≡ None → ⊥) → (exts : ExtensionMap) → IsPacketId exts datagram None
IsPacketId-none datagram none exts header wire = none wire.parts wire.is_packet wire.no_other

-- the headers of a datagram have one packet id
one_id : (exts : ExtensionMap) (datagram : List ℕ) (a b : RtpHeader) → IsWire exts datagram a → IsWire exts datagram b → packet_id_of a ≡ packet_id_of b
one_id exts datagram a b first second =
    let id : PacketParts → PacketId = λ parts. record { source = parts.ssrc; low = parts.sequence_number } in
    let same : first.parts ≡ second.parts = sym (one_packet datagram first.parts first.is_packet) ∙ one_packet datagram second.parts second.is_packet in
    ap packet_id_of first.is_header.fields_are ∙ ap id same ∙ sym (ap packet_id_of second.is_header.fields_are)

-- a datagram has one packet id, or none
one_packet_id : (exts : ExtensionMap) (datagram : List ℕ) (a b : Option PacketId) → IsPacketId exts datagram a → IsPacketId exts datagram b → a ≡ b
one_packet_id exts datagram None None first second = refl
one_packet_id exts datagram None (Some b) first second = absurd (first second.header second.wire)
one_packet_id exts datagram (Some a) None first second = absurd (second first.header first.wire)
one_packet_id exts datagram (Some a) (Some b) first second =
    ap Some (first.packet_id_is ∙ one_id exts datagram first.header second.header first.wire second.wire ∙ sym second.packet_id_is)

pub one_packet_ids : (exts : ExtensionMap) (datagrams : List (List ℕ)) (a b : List (Option PacketId)) → ArePacketIds exts datagrams a → ArePacketIds exts datagrams b → a ≡ b
one_packet_ids exts [] [] [] first second = refl
one_packet_ids exts [] [] (y ∷ b) first second = absurd second
one_packet_ids exts [] (x ∷ a) b first second = absurd first
one_packet_ids exts (d ∷ ds) [] b first second = absurd first
one_packet_ids exts (d ∷ ds) (x ∷ a) [] first second = absurd second
one_packet_ids exts (d ∷ ds) (x ∷ a) (y ∷ b) first second =
    ap (λ (z : Option PacketId). z ∷ a) (one_packet_id exts d x y first.0 second.0) ∙ ap (λ (zs : List (Option PacketId)). y ∷ zs) (one_packet_ids exts ds a b first.1 second.1)
