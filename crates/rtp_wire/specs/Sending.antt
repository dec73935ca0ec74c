-- Packets of one sender, and what arrives of them (RFC 3550, 5.1; RFC 8285, 4).
use Rattle.std.specs.Prelude.{◌≡◌, ℕ, List, map, Option, Some}
use Rattle.std.specs.List.{AllZip, AllByRecursion}
use Rattle.rtp_receive.specs.Verdicts.{PacketId}
use Rattle.rtp_receive.specs.TrueNumbers.{AreTrueNumbers}
use Rattle.rtp_ext.specs.declared.map.ExtensionMap.{ExtensionMap}
use Rattle.rtp_wire.specs.declared.header.rtp_header.RtpHeader.{RtpHeader}
use Rattle.rtp_wire.specs.Header.{IsWire}
use Rattle.rtp_wire.specs.PacketIds.{packet_id_of}
use Rattle.rtp_wire.specs.Written.{image_of}

-- a header of this source
abbrev pub IsOfSource : ℕ → RtpHeader → Type 0
IsOfSource source header = header.ssrc ≡ source

-- what arrives of a header: a datagram that begins as the header is written under the map
abbrev pub Arrives : ExtensionMap → RtpHeader → List ℕ → Type 0
Arrives exts header datagram = IsWire exts datagram (image_of exts header)

-- the packet ids of some headers
abbrev pub packet_ids_of : List RtpHeader → List (Option PacketId)
packet_ids_of headers = map (λ header. Some (packet_id_of header)) headers

-- what arrives of a sender's headers, in order of arrival: some may be lost, come twice or late, and each has the number that the sender gave it
pub record AreSent (exts : ExtensionMap) (headers : List RtpHeader) (numbers : List ℕ) (datagrams : List (List ℕ)) : Type 0 where
  pub source : ℕ
  pub of_source : AllByRecursion (IsOfSource source) headers
  pub arrive : AllZip (Arrives exts) headers datagrams
  pub are_true : AreTrueNumbers 0 (packet_ids_of headers) numbers
