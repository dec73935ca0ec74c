-- What C is told of a packet where it lies (RFC 3550, 5.1; RFC 8285, 4).
use Rattle.std.specs.Prelude.{◌≡◌, ℕ, ◌+◌, ◌<◌, ◌⊎◌, List, length, slice_range, Option, Some, None, unwrap_or, true, ℤ}
use Rattle.rtp_ext.specs.declared.form.ExtensionsForm.{ExtensionsForm}
use Rattle.rtp_ext.specs.declared.form.ExtensionsForm.TheVariants.{OneByte, TwoByte}
use Rattle.rtp_base.specs.Flag.{bit}
use Rattle.rtp_wire.specs.Packet.{PacketParts, IsPacket, IsWithoutPadding}
use Rattle.rtp_wire.specs.Padding.{padding_count}
use Rattle.rtp_wire.specs.PartsAt.{profile_in}
use Rattle.rtp_wire.specs.PutIntoPacket.{form_of_block, body_of_block}
use Rattle.rtp_c.specs.declared.packet.PacketView.{PacketView}
use Rattle.rtp_c.specs.Status.{ok, IsCauseStatus}

-- the number of a block's form, and of none
abbrev pub form_number : Option ExtensionsForm → ℕ
form_number None = 0
form_number (Some OneByte) = 1
form_number (Some TwoByte) = 2

-- the number of a packet's block: that of its form, and 3 where the form is neither of the two
abbrev pub block_number : Option (ExtensionsForm × List ℕ) → Option (ℕ × List ℕ) → ℕ
block_number block None = form_number (form_of_block block)
block_number block (Some other) = 3

-- the body of a packet's block, of whatever form, and no bytes without one
abbrev pub body_of_any : Option (ExtensionsForm × List ℕ) → Option (ℕ × List ℕ) → List ℕ
body_of_any block None = body_of_block block
body_of_any block (Some other) = other.1

-- the bytes of this length at this offset
abbrev pub slice_at : List ℕ → ℕ → ℕ → List ℕ
slice_at bytes offset len = slice_range bytes offset (offset + len)

-- how many bytes a payload has without its padding, where there are as many as the padding counts; where there are fewer, the length is 0
abbrev pub IsUnpaddedLen : PacketParts → ℕ → ℕ → Type 0
IsUnpaddedLen parts fits len =
    ((fits ≡ 1) × (payload : List ℕ) × IsWithoutPadding parts.has_padding parts.payload payload × (len ≡ length payload))
    ⊎ ((fits ≡ 0) × (parts.has_padding ≡ true) × (length parts.payload < padding_count parts.payload) × (len ≡ 0))

-- what C is told of a packet with these bytes and parts
pub record IsViewOf (bytes : List ℕ) (parts : PacketParts) (view : PacketView) : Type 0 where
  pub padding_is : view.has_padding ≡ bit parts.has_padding
  pub marker_is : view.marker ≡ bit parts.marker
  pub payload_type_is : view.payload_type ≡ parts.payload_type
  pub number_is : view.sequence_number ≡ parts.sequence_number
  pub timestamp_is : view.timestamp ≡ parts.timestamp
  pub ssrc_is : view.ssrc ≡ parts.ssrc
  pub sources_are : view.csrc_count ≡ length parts.sources
  pub form_is : view.block_form ≡ block_number parts.block parts.other_block
  -- the 16 bits that the block begins with, and 0 without one
  pub profile_is : view.block_profile ≡ unwrap_or (profile_in bytes) 0
  pub body_is : slice_at bytes view.body_at view.body_len ≡ body_of_any parts.block parts.other_block
  pub body_ends : view.body_at + view.body_len ≡ view.payload_at
  pub payload_is : slice_at bytes view.payload_at view.payload_len ≡ parts.payload
  pub payload_ends : view.payload_at + view.payload_len ≡ length bytes
  pub unpadded_is : IsUnpaddedLen parts view.padding_fits view.unpadded_len

-- C is told the packet that these bytes are, or the first cause for which they are none, and then nothing is written
abbrev pub IsPacketRead : List ℕ → ℤ → PacketView → PacketView → Type 0
IsPacketRead bytes status old new =
    ((status ≡ ok) × ((parts : PacketParts) × IsPacket bytes parts × IsViewOf bytes parts new)) ⊎ (IsCauseStatus bytes status × (new ≡ old))
