-- Retransmissions (RFC 4588, 4): packets of a stream of their own, whose payload is the original sequence number (OSN) and then the payload of the packet that they repeat.
--
-- |                         RTP header                            |
-- |            OSN                |                               |
-- |                     original payload                          |
use Rattle.std.specs.Prelude.{◌≡◌, ℕ, ◌+◌, ◌<◌, ◌≤◌, List, ◌++◌, length, take, drop, slice_range, Option, Some, None, IfSome, true, false, All}
use Rattle.std.specs.Int.{w16, to_be_bytes}
use Rattle.rtp_ext.specs.declared.form.ExtensionsForm.{ExtensionsForm}
use Rattle.rtp_ext.specs.Elements.{Element}
use Rattle.rtp_ext.specs.ElementsInPlace.{ChangesIds, CanRenumber}
use Rattle.rtp_wire.specs.declared.packet.retransmission.RetransmissionFields.{RetransmissionFields}
use Rattle.rtp_wire.specs.declared.packet.retransmission.OriginalFields.{OriginalFields}
use Rattle.rtp_wire.specs.declared.packet.not_retransmitted.NotRetransmitted.{NotRetransmitted}
use Rattle.rtp_wire.specs.declared.packet.not_retransmitted.NotRetransmitted.TheVariants.{CutPacket, NotAPacket, PaddingTooLong, NoOriginalNumber, NewIdTooHigh, NoRoom}
use Rattle.rtp_wire.specs.NotAHeader.{sources_end}
use Rattle.rtp_wire.specs.NotAPacket.{IsFirstBy, IsFirstCause}
use Rattle.rtp_wire.specs.OriginalNumber.{HasOriginalNumber}
use Rattle.rtp_wire.specs.Packet.{PacketParts, IsPacket, IsWithoutPadding, header_len_of}
use Rattle.rtp_wire.specs.PacketElements.{AreElementsOf}
use Rattle.rtp_wire.specs.Padding.{padding_count}
use Rattle.rtp_wire.specs.PartsAt.{has_block}

-- the block with the elements of another one under their new ids, and none without one
abbrev pub IsBlockUnder : (ℕ → Option ℕ) → Option (ExtensionsForm × List ℕ) → Option (ExtensionsForm × List ℕ) → Type 0
IsBlockUnder ids None new = new ≡ None
IsBlockUnder ids (Some old) new = (body : List ℕ) × (new ≡ Some (old.0, body)) × ChangesIds old.0 ids old.1 body

-- the retransmission of a packet: it has the SSRC, payload type and sequence number of its own stream, no padding, the elements under their new ids, and the original number before the payload; all other parts are those of the packet
pub record IsRetransmissionOf (original : PacketParts) (stream : RetransmissionFields) (ids : ℕ → Option ℕ) (sent : PacketParts) : Type 0 where
  pub payload : List ℕ
  pub payload_is : IsWithoutPadding original.has_padding original.payload payload
  pub block_is : IsBlockUnder ids original.block sent.block
  pub parts_are : sent ≡ record original {
    has_padding = false;
    payload_type = stream.payload_type;
    sequence_number = stream.sequence_number;
    ssrc = stream.ssrc;
    block = sent.block;
    payload = to_be_bytes w16 original.sequence_number ++ payload;
  }

-- the packet that a retransmission repeats: it has the SSRC and payload type of the original stream, the number that the payload began with, no padding, the elements under their new ids, and the payload after the number; all other parts are those of the retransmission
pub record IsOriginalOf (sent : PacketParts) (stream : OriginalFields) (ids : ℕ → Option ℕ) (original : PacketParts) : Type 0 where
  pub payload : List ℕ
  pub payload_is : IsWithoutPadding sent.has_padding sent.payload payload
  pub number_is : HasOriginalNumber payload original.sequence_number
  pub block_is : IsBlockUnder ids sent.block original.block
  pub parts_are : original ≡ record sent {
    has_padding = false;
    payload_type = stream.payload_type;
    sequence_number = original.sequence_number;
    ssrc = stream.ssrc;
    block = original.block;
    payload = drop 2 payload;
  }

-- a packet that has become a retransmission and has come back: it is what it was, without its padding, with this SSRC and payload type, and with its elements under the ids there and then back
pub record IsRestored (original : PacketParts) (stream : OriginalFields) (there back : ℕ → Option ℕ) (restored : PacketParts) : Type 0 where
  pub payload : List ℕ
  pub payload_is : IsWithoutPadding original.has_padding original.payload payload
  pub between : Option (ExtensionsForm × List ℕ)
  pub there_is : IsBlockUnder there original.block between
  pub back_is : IsBlockUnder back between restored.block
  pub parts_are : restored ≡ record original {
    has_padding = false;
    payload_type = stream.payload_type;
    ssrc = stream.ssrc;
    block = restored.block;
    payload = payload;
  }

-- where there is a block, the four bytes before its body stay
abbrev pub KeepsBlockHeader : List ℕ → List ℕ → Type 0
KeepsBlockHeader old new = has_block old ≡ true → slice_range new (sources_end old) (sources_end old + 4) ≡ slice_range old (sources_end old) (sources_end old + 4)

-- the bytes are a packet, of whose parts this holds
pub record IsPacketWith (Fact : PacketParts → Type 0) (bytes : List ℕ) : Type 0 where
  pub parts : PacketParts
  pub is_packet : IsPacket bytes parts
  pub fact : Fact parts

-- the bytes were a packet, and these are a packet that it has become
abbrev pub Becomes : (PacketParts → PacketParts → Type 0) → List ℕ → List ℕ → Type 0
Becomes Change old new = IsPacketWith (λ was. IsPacketWith (Change was) new) old

-- the packet in the first bytes of a buffer, so many of them, has become its retransmission, which has two bytes more than the packet without its padding; the bytes behind it stay
pub record Sends (stream : RetransmissionFields) (ids : ℕ → Option ℕ) (old : List ℕ) (len : ℕ) (new : List ℕ) (end : ℕ) : Type 0 where
  pub becomes : Becomes (λ original. IsRetransmissionOf original stream ids) (take len old) (take end new)
  pub length_is : (original : PacketParts) (payload : List ℕ) → IsPacket (take len old) original → IsWithoutPadding original.has_padding original.payload payload → end ≡ header_len_of original + 2 + length payload
  pub block_header_is : KeepsBlockHeader old new
  pub within : end ≤ length old
  pub behind_is : drop end new ≡ drop end old

-- the retransmission in the first bytes of a buffer, so many of them, has become the packet that it repeats, which has two bytes fewer than the retransmission without its padding; the bytes behind it stay
pub record Restores (stream : OriginalFields) (ids : ℕ → Option ℕ) (old : List ℕ) (len : ℕ) (new : List ℕ) (end : ℕ) : Type 0 where
  pub becomes : Becomes (λ sent. IsOriginalOf sent stream ids) (take len old) (take end new)
  pub length_is : (sent : PacketParts) (payload : List ℕ) → IsPacket (take len old) sent → IsWithoutPadding sent.has_padding sent.payload payload → end + 2 ≡ header_len_of sent + length payload
  pub block_header_is : KeepsBlockHeader old new
  pub within : end ≤ length old
  pub behind_is : drop end new ≡ drop end old

-- the padding counts more bytes than the payload has
abbrev pub HasLongPadding : PacketParts → Type 0
HasLongPadding parts = (parts.has_padding ≡ true) × (length parts.payload < padding_count parts.payload)

-- this holds of the payload without its padding
pub record HasPayload (Fact : List ℕ → Type 0) (parts : PacketParts) : Type 0 where
  pub payload : List ℕ
  pub payload_is : IsWithoutPadding parts.has_padding parts.payload payload
  pub fact : Fact payload

-- an element has a new id that the form of the block can't carry
pub record HasHighId (ids : ℕ → Option ℕ) (parts : PacketParts) : Type 0 where
  pub elements : List Element
  pub are_elements : AreElementsOf parts.block elements
  pub high : IfSome parts.block (λ block. All (CanRenumber block.0 ids) elements) → ⊥

-- a cause for which the first bytes of a buffer, so many of them, don't become a retransmission
abbrev pub KeepsFromSending : (ℕ → Option ℕ) → List ℕ → ℕ → NotRetransmitted → Type 0
KeepsFromSending ids buf len CutPacket = length buf < len
KeepsFromSending ids buf len (NotAPacket cause) = IsFirstCause (take len buf) cause
KeepsFromSending ids buf len PaddingTooLong = IsPacketWith HasLongPadding (take len buf)
KeepsFromSending ids buf len NoOriginalNumber = ⊥
KeepsFromSending ids buf len NewIdTooHigh = IsPacketWith (HasHighId ids) (take len buf)
KeepsFromSending ids buf len NoRoom =
    IsPacketWith (λ parts. HasPayload (λ payload. length buf < header_len_of parts + 2 + length payload) parts) (take len buf)

-- and one for which they don't become the packet that they repeat
abbrev pub KeepsFromRestoring : (ℕ → Option ℕ) → List ℕ → ℕ → NotRetransmitted → Type 0
KeepsFromRestoring ids buf len CutPacket = length buf < len
KeepsFromRestoring ids buf len (NotAPacket cause) = IsFirstCause (take len buf) cause
KeepsFromRestoring ids buf len PaddingTooLong = IsPacketWith HasLongPadding (take len buf)
KeepsFromRestoring ids buf len NoOriginalNumber = IsPacketWith (HasPayload (λ payload. length payload < 2)) (take len buf)
KeepsFromRestoring ids buf len NewIdTooHigh = IsPacketWith (HasHighId ids) (take len buf)
KeepsFromRestoring ids buf len NoRoom = ⊥

-- the place of a cause in the order in which they are looked for
abbrev pub place_of : NotRetransmitted → ℕ
place_of CutPacket = 0
place_of (NotAPacket cause) = 1
place_of PaddingTooLong = 2
place_of NoOriginalNumber = 3
place_of NewIdTooHigh = 4
place_of NoRoom = 5

-- of the causes that apply, this one is the first
abbrev pub IsFirstOf : (NotRetransmitted → Type 0) → NotRetransmitted → Type 0
IsFirstOf Fact cause = IsFirstBy place_of Fact cause
