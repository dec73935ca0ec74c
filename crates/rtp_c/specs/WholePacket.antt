-- What C is told of a whole packet by one call: what rtpw_packet_parse tells of it, and its header with the values (RFC 3550, 5.1; RFC 8285, 4).
use Rattle.std.specs.Prelude.{◌≡◌, ℕ, ◌-◌, ◌⊎◌, List, length, ℤ}
use Rattle.rtp_wire.specs.Packet.{PacketParts, IsPacket}
use Rattle.rtp_wire.specs.Rtcp.{IsRtcp}
use Rattle.rtp_c.specs.declared.packet.PacketView.{PacketView}
use Rattle.rtp_c.specs.declared.whole_packet.WholePacket.{WholePacket}
use Rattle.rtp_c.specs.HeaderView.{IsHeaderTold}
use Rattle.rtp_c.specs.PacketView.{IsViewOf}
use Rattle.rtp_c.specs.Status.{ok, rtcp, IsCauseStatus}

-- the fields and places of a whole packet of so many bytes, as rtpw_packet has them: the payload begins where the header ends, and with its padding it is the rest
abbrev pub packet_in : ℕ → WholePacket → PacketView
packet_in len whole = record {
  payload_at = whole.header.header_len;
  payload_len = len - whole.header.header_len;
  unpadded_len = whole.unpadded_len;
  body_at = whole.body_at;
  body_len = whole.body_len;
  timestamp = whole.header.timestamp;
  ssrc = whole.header.ssrc;
  sequence_number = whole.header.sequence_number;
  payload_type = whole.header.payload_type;
  csrc_count = whole.header.csrc_count;
  marker = whole.header.marker;
  has_padding = whole.header.has_padding;
  padding_fits = whole.padding_fits;
  block_form = whole.block_form;
  block_profile = whole.block_profile;
}

-- what C is told of a whole packet with these bytes and parts
pub record IsWhole (numbers bytes : List ℕ) (parts : PacketParts) (whole : WholePacket) : Type 0 where
  pub packet_is : IsViewOf bytes parts (packet_in (length bytes) whole)
  pub header_is : IsHeaderTold numbers parts whole.header

-- C is told the whole packet that these bytes are, or the first cause for which they are none, and then nothing is written
abbrev pub IsWholeOrCause : List ℕ → List ℕ → ℤ → WholePacket → WholePacket → Type 0
IsWholeOrCause numbers bytes status old new =
    ((status ≡ ok) × ((parts : PacketParts) × IsPacket bytes parts × IsWhole numbers bytes parts new)) ⊎ (IsCauseStatus bytes status × (new ≡ old))

-- the same where they aren't RTCP; where they are the status says so, and nothing is written
abbrev pub IsWholeRead : List ℕ → List ℕ → ℤ → WholePacket → WholePacket → Type 0
IsWholeRead numbers bytes status old new =
    (IsRtcp bytes × (status ≡ rtcp) × (new ≡ old)) ⊎ ((IsRtcp bytes → ⊥) × IsWholeOrCause numbers bytes status old new)
