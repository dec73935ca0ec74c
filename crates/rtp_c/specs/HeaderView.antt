-- What C is told of a whole header (RFC 3550, 5.1).
use Rattle.std.specs.Prelude.{◌≡◌, ℕ, ◌⊎◌, List, unwrap_or, ℤ}
use Rattle.rtp_base.specs.Flag.{bit}
use Rattle.rtp_vla.specs.Allocation.{nothing_sent}
use Rattle.rtp_ext.specs.ExtensionMap.{Slots}
use Rattle.rtp_wire.specs.declared.header.rtp_header.RtpHeader.{RtpHeader}
use Rattle.rtp_wire.specs.Header.{IsHeaderOf, IsWire}
use Rattle.rtp_wire.specs.Packet.{PacketParts}
use Rattle.rtp_c.specs.declared.header.HeaderView.{HeaderView}
use Rattle.rtp_c.specs.declared.layers.Layers.{Layers}
use Rattle.rtp_c.specs.Status.{ok, IsHeaderStatus}
use Rattle.rtp_c.specs.StoredMap.{HasKinds}
use Rattle.rtp_c.specs.ValuesView.{IsViewOfValues}
use Rattle.rtp_c.specs.LayersView.{IsViewOfLayers}

-- what C is told of a header: its fields, each in its place
pub record IsViewOfHeader (header : RtpHeader) (view : HeaderView) : Type 0 where
  pub padding_is : view.has_padding ≡ bit header.has_padding
  pub extension_is : view.has_extension ≡ bit header.has_extension
  pub count_is : view.csrc_count ≡ header.csrc_count
  pub marker_is : view.marker ≡ bit header.marker
  pub payload_type_is : view.payload_type ≡ header.payload_type
  pub number_is : view.sequence_number ≡ header.sequence_number
  pub timestamp_is : view.timestamp ≡ header.timestamp
  pub ssrc_is : view.ssrc ≡ header.ssrc
  pub sources_are : view.csrc ≡ header.csrc
  pub values_are : IsViewOfValues header.ext_vals view.values
  pub header_len_is : view.header_len ≡ header.header_len

-- what C is told of the header of a packet of these parts: its fields, and the values that its block gives under the map of these numbers, none where there is no block or one of another form
pub record IsHeaderTold (numbers : List ℕ) (parts : PacketParts) (view : HeaderView) : Type 0 where
  pub slots : Slots
  pub has_kinds : HasKinds numbers slots
  pub header : RtpHeader
  pub is_header : IsHeaderOf slots parts header
  pub is_view : IsViewOfHeader header view

-- the bytes begin with this header under the map of these numbers
pub record BeginsWithHeader (numbers bytes : List ℕ) (header : RtpHeader) : Type 0 where
  pub slots : Slots
  pub has_kinds : HasKinds numbers slots
  pub is_wire : IsWire slots bytes header

-- C is told the header that the bytes begin with under the map of these numbers
pub record IsParsedAs (numbers bytes : List ℕ) (view : HeaderView) : Type 0 where
  pub header : RtpHeader
  pub begins : BeginsWithHeader numbers bytes header
  pub is_view : IsViewOfHeader header view

-- the same, or C is told the first cause for which no header begins there, and then nothing is written
abbrev pub IsHeaderRead : List ℕ → List ℕ → ℤ → HeaderView → HeaderView → Type 0
IsHeaderRead numbers bytes status old new =
    ((status ≡ ok) × IsParsedAs numbers bytes new) ⊎ (IsHeaderStatus bytes status × (new ≡ old))

-- C is told that header with its layer allocation: of a header without one, as where nothing is sent
pub record IsParsedWithLayersAs (numbers bytes : List ℕ) (view : HeaderView) (layers : Layers) : Type 0 where
  pub header : RtpHeader
  pub begins : BeginsWithHeader numbers bytes header
  pub is_view : IsViewOfHeader header view
  pub layers_are : IsViewOfLayers (unwrap_or header.ext_vals.video_layers_allocation nothing_sent) layers
