-- What a receiver of a group gets before the payload of a retransmission: the header with P clear, and the original sequence number (OSN) (RFC 4588, 4).
--
-- |                         RTP header                            |
-- |            OSN                |
use Rattle.std.specs.Prelude.{◌≡◌, ℕ, ◌+◌, ◌*◌, ◌/◌, ◌%◌, List, [], ◌∷◌, ◌++◌, slice_index, Option, Some, false}
use Rattle.std.specs.Int.{w16, to_be_bytes}
use Rattle.rtp_base.specs.Overwriting.{overwritten}
use Rattle.rtp_ext.specs.declared.form.ExtensionsForm.{ExtensionsForm}
use Rattle.rtp_ext.specs.Elements.{Element}
use Rattle.rtp_wire.specs.declared.packet.fields.Fields.{Fields}
use Rattle.rtp_wire.specs.declared.packet.retransmission.RetransmissionFields.{RetransmissionFields}
use Rattle.rtp_wire.specs.Packet.{PacketParts, IsPacket, IsWithoutPadding}
use Rattle.rtp_wire.specs.Retransmission.{IsRetransmissionOf}
use Rattle.rtp_route.specs.declared.slots.Slot.{Slot}
use Rattle.rtp_route.specs.GroupHeader.{IsFilledIn}
use Rattle.rtp_route.specs.Routing.{IsRouted}

-- the first byte of a packet with P clear: V before it stays, and so do X and CC behind it (RFC 3550, 5.1)
abbrev pub without_padding_bit : ℕ → ℕ
without_padding_bit byte = byte / 64 * 64 + byte % 32

-- the header with P clear
abbrev pub without_padding : List ℕ → List ℕ
without_padding header = overwritten header 0 (without_padding_bit (slice_index header 0) ∷ [])

-- the header with P clear, and behind it this number in two bytes, the high one first
abbrev pub with_number : List ℕ → ℕ → List ℕ
with_number header number = without_padding header ++ to_be_bytes w16 number

-- the header of the packet as it goes to the receiver, with P clear and the number of the packet that is repeated behind it: the fields are those of the retransmission, and the number begins its payload
pub record IsRoutedAgain (old : List ℕ) (fields : Fields) (number : ℕ) (ids : ℕ → Option ℕ) (news : List Element) (allowed : Option ExtensionsForm) (new : List ℕ) : Type 0 where
  pub header : List ℕ
  pub routed : IsRouted old fields ids news allowed header
  pub is_packet : (parts : PacketParts) → IsPacket header parts → IsPacket new (record parts { has_padding = false; payload = to_be_bytes w16 number })
  pub bytes_are : new ≡ with_number header number

-- the header of a group with these fields, and then these data at the places, with P clear and the number behind it
pub record IsFilledInAgain (header : List ℕ) (slots : List Slot) (fields : Fields) (number : ℕ) (contents : List (List ℕ)) (new : List ℕ) : Type 0 where
  pub own : List ℕ
  pub filled : IsFilledIn header slots fields contents own
  pub bytes_are : new ≡ with_number own number

-- the fields of a retransmission of the packet of this number, which a receiver gets with these fields: M and the timestamp are the same, and the SSRC, payload type and number those of the stream of retransmissions
pub record AreFieldsAgain (got : Fields) (number : ℕ) (stream : RetransmissionFields) (fields : Fields) : Type 0 where
  pub number_is : got.sequence_number ≡ Some number
  pub fields_are : fields ≡ record got {
    payload_type = Some stream.payload_type;
    sequence_number = Some stream.sequence_number;
    ssrc = Some stream.ssrc;
  }

-- with a payload behind it, without its padding, it is the retransmission of the packet that the receiver gets with these fields and this payload
abbrev pub RepeatsPacketWith : List ℕ → Fields → RetransmissionFields → (ℕ → Option ℕ) → List Element → Option ExtensionsForm → List ℕ → Type 0
RepeatsPacketWith old got stream ids news allowed new =
    (header payload unpadded : List ℕ) (original sent : PacketParts) → IsRouted old got ids news allowed header → IsPacket (header ++ payload) original
    → IsWithoutPadding original.has_padding payload unpadded → IsPacket (new ++ unpadded) sent → IsRetransmissionOf original stream (λ id. Some id) sent
