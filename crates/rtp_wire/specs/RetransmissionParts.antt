-- Where the parts of a packet lie that is to become a retransmission, or to be one no longer, and what becomes of its header.
use Rattle.std.specs.Prelude.{◌≡◌, ℕ, ◌+◌, ◌<◌, ◌≤◌, List, length, take, Option, option_map, false}
use Rattle.rtp_wire.specs.declared.packet.fields.Fields.{Fields}
use Rattle.rtp_wire.specs.declared.packet.not_retransmitted.NotRetransmitted.{NotRetransmitted}
use Rattle.rtp_wire.specs.declared.packet.not_retransmitted.NotRetransmitted.TheVariants.{CutPacket, NotAPacket, PaddingTooLong, NoOriginalNumber, NewIdTooHigh, NoRoom}
use Rattle.rtp_wire.specs.declared.packet.retransmission.Layout.{Layout}
use Rattle.rtp_wire.specs.GivenFields.{with_header_fields}
use Rattle.rtp_wire.specs.NotAPacket.{IsFirstCause}
use Rattle.rtp_wire.specs.Packet.{PacketParts, IsPacket, IsWithoutPadding, header_len_of}
use Rattle.rtp_wire.specs.Retransmission.{IsBlockUnder, IsPacketWith, HasLongPadding}

-- the first bytes of a buffer, so many of them, are a packet of these parts, which lie there
pub record IsLaidOut (buf : List ℕ) (len : ℕ) (layout : Layout) : Type 0 where
  pub parts : PacketParts
  pub payload : List ℕ
  pub fits : len ≤ length buf
  pub is_packet : IsPacket (take len buf) parts
  pub payload_is : IsWithoutPadding parts.has_padding parts.payload payload
  pub form_is : layout.form ≡ option_map (λ block. block.0) parts.block
  pub header_is : layout.header_len ≡ header_len_of parts
  pub end_is : layout.end ≡ header_len_of parts + length payload
  pub number_is : layout.sequence_number ≡ parts.sequence_number

-- the first bytes of a buffer aren't a packet whose padding can be taken off
abbrev pub HasNoLayout : List ℕ → ℕ → NotRetransmitted → Type 0
HasNoLayout buf len CutPacket = length buf < len
HasNoLayout buf len (NotAPacket cause) = (len ≤ length buf) × IsFirstCause (take len buf) cause
HasNoLayout buf len PaddingTooLong = (len ≤ length buf) × IsPacketWith HasLongPadding (take len buf)
HasNoLayout buf len NoOriginalNumber = ⊥
HasNoLayout buf len NewIdTooHigh = ⊥
HasNoLayout buf len NoRoom = ⊥

-- a header with the given fields, without padding, and with the elements under their new ids
pub record IsChangedHeader (ids : ℕ → Option ℕ) (fields : Fields) (old new : PacketParts) : Type 0 where
  pub block_is : IsBlockUnder ids old.block new.block
  pub parts_are : new ≡ with_header_fields fields (record old { has_padding = false; block = new.block })
