-- What a receiver knows the packet of a datagram by (RFC 3550, 5.1).
use Rattle.std.specs.Prelude.{◌≡◌, ℕ, List, Option, Some, None}
use Rattle.std.specs.List.{AllZip}
use Rattle.rtp_receive.specs.Verdicts.{PacketId}
use Rattle.rtp_ext.specs.declared.map.ExtensionMap.{ExtensionMap}
use Rattle.rtp_wire.specs.declared.header.rtp_header.RtpHeader.{RtpHeader}
use Rattle.rtp_wire.specs.Header.{IsWire}

-- what a header says of its packet's source and number
abbrev pub packet_id_of : RtpHeader → PacketId
packet_id_of header = record { source = header.ssrc; low = header.sequence_number }

-- the packet id of an SSRC and a sequence number
abbrev pub packet_id_in : Option (ℕ × ℕ) → Option PacketId
packet_id_in None = None
packet_id_in (Some (ssrc, sequence_number)) = Some (record { source = ssrc; low = sequence_number })

-- the datagram begins with a header of this packet id under the map
pub record Shows (exts : ExtensionMap) (datagram : List ℕ) (packet_id : PacketId) : Type 0 where
  pub header : RtpHeader
  pub wire : IsWire exts datagram header
  pub packet_id_is : packet_id ≡ packet_id_of header

-- the packet id of a datagram, and none where the datagram begins with no header
abbrev pub IsPacketId : ExtensionMap → List ℕ → Option PacketId → Type 0
IsPacketId exts datagram None = (header : RtpHeader) → IsWire exts datagram header → ⊥
IsPacketId exts datagram (Some packet_id) = Shows exts datagram packet_id

-- a packet id for each datagram
abbrev pub ArePacketIds : ExtensionMap → List (List ℕ) → List (Option PacketId) → Type 0
ArePacketIds exts datagrams packet_ids = AllZip (IsPacketId exts) datagrams packet_ids
