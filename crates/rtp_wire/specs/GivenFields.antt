-- Fields of a packet's fixed part that are set together, where they are given (RFC 3550, 5.1).
use Rattle.std.specs.Prelude.{ℕ, ◌≤◌, unwrap_or}
use Rattle.std.specs.Option.{IfSome}
use Rattle.rtp_wire.specs.declared.packet.fields.Fields.{Fields}
use Rattle.rtp_wire.specs.Packet.{PacketParts}

-- what a packet says with the given fields in the place of its own, and all else as it was
abbrev pub with_header_fields : Fields → PacketParts → PacketParts
with_header_fields fields was = record was {
  marker = unwrap_or fields.marker was.marker;
  payload_type = unwrap_or fields.payload_type was.payload_type;
  sequence_number = unwrap_or fields.sequence_number was.sequence_number;
  timestamp = unwrap_or fields.timestamp was.timestamp;
  ssrc = unwrap_or fields.ssrc was.ssrc;
}

-- the bytes of each given field lie between the two offsets
pub record LieBetween (fields : Fields) (start end : ℕ) : Type 0 where
  pub marker_lies : IfSome fields.marker (λ _. (start ≤ 1) × (2 ≤ end))
  pub payload_type_lies : IfSome fields.payload_type (λ _. (start ≤ 1) × (2 ≤ end))
  pub sequence_number_lies : IfSome fields.sequence_number (λ _. (start ≤ 2) × (4 ≤ end))
  pub timestamp_lies : IfSome fields.timestamp (λ _. (start ≤ 4) × (8 ≤ end))
  pub ssrc_lies : IfSome fields.ssrc (λ _. (start ≤ 8) × (12 ≤ end))
