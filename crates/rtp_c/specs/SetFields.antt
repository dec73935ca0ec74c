-- The fields that C gives to be set together (RFC 3550, 5.1).
use Rattle.std.specs.Prelude.{◌≡◌, ◌≢◌, ◌↔◌, ℕ, ◌<◌, ◌≤◌, List, ℤ}
use Rattle.rtp_wire.specs.declared.packet.fields.Fields.{Fields}
use Rattle.rtp_wire.specs.Packet.{PacketParts, IsPacket}
use Rattle.rtp_wire.specs.ChangedPacket.{ChangesOnly}
use Rattle.rtp_wire.specs.GivenFields.{LieBetween}
use Rattle.rtp_wire.specs.NotAHeader.{IsNoPacket}
use Rattle.rtp_c.specs.Status.{ok, IsCauseStatus}
use Rattle.rtp_c.specs.declared.changing.FieldsView.{FieldsView}
use Rattle.rtp_c.specs.Given.{is_nonzero, given}

-- each field, where its flag is set
abbrev pub fields_given : FieldsView → Fields
fields_given view = record {
  marker = given view.has_marker (is_nonzero view.marker);
  payload_type = given view.has_payload_type view.payload_type;
  sequence_number = given view.has_sequence_number view.sequence_number;
  timestamp = given view.has_timestamp view.timestamp;
  ssrc = given view.has_ssrc view.ssrc;
}

-- a payload type that is given has seven bits
abbrev pub CanBeSet : FieldsView → Type 0
CanBeSet view = 0 < view.has_payload_type → view.payload_type ≤ 127

-- what setting parts of the packet in a buffer comes to: these parts alone are others, in these bytes; nothing changes where it is no packet
pub record SetsParts (set_in : PacketParts → PacketParts) (ChangesOnlyTheirs : List ℕ → List ℕ → Type 0) (old new : List ℕ) (status : ℤ) : Type 0 where
  pub set : (parts : PacketParts) → IsPacket old parts → (status ≡ ok) × IsPacket new (set_in parts)
  pub cause : status ≢ ok → IsCauseStatus old status
  pub refused : (status ≢ ok) ↔ IsNoPacket old
  pub bytes : ChangesOnlyTheirs old new
  pub unchanged : status ≢ ok → new ≡ old

-- no byte is another before the first of the fields that are given, or behind the last one
abbrev pub ChangesOnlyFields : Fields → List ℕ → List ℕ → Type 0
ChangesOnlyFields fields old new = (start end : ℕ) → LieBetween fields start end → ChangesOnly start end old new
