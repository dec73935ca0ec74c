-- The fixed part of a header in a struct of its own, as it is told and given (RFC 3550, 5.1).
use Rattle.std.specs.Prelude.{◌≡◌, ℕ, ◌==◌, List, replicate, Bool, true, false, if◌then◌else◌}
use Rattle.rtp_values.specs.Values.{no_values}
use Rattle.rtp_wire.specs.declared.header.rtp_header.RtpHeader.{RtpHeader}
use Rattle.rtp_wire.specs.Packet.{PacketParts}
use Rattle.rtp_c.specs.declared.fixed_part.FixedView.{FixedView}
use Rattle.rtp_c.specs.declared.fixed_part.LayoutView.{LayoutView}
use Rattle.rtp_c.specs.declared.packet.PacketView.{PacketView}
use Rattle.rtp_c.specs.Given.{is_nonzero}
use Rattle.rtp_c.specs.PacketView.{IsViewOf}

-- the header of this fixed part, without contributing sources, block and values
abbrev pub fixed_in : FixedView → RtpHeader
fixed_in view = record {
  version = 2;
  has_padding = is_nonzero view.has_padding;
  has_extension = false;
  csrc_count = 0;
  marker = is_nonzero view.marker;
  payload_type = view.payload_type;
  sequence_number = view.sequence_number;
  timestamp = view.timestamp;
  ssrc = view.ssrc;
  csrc = replicate 15 0;
  ext_vals = no_values;
  header_len = 0;
}

-- what the two structs say of a packet is what this one says of it: X is set exactly where its block has a form
pub record AreOfView (view : PacketView) (fixed : FixedView) (layout : LayoutView) : Type 0 where
  pub version_is : fixed.version ≡ 2
  pub padding_is : fixed.has_padding ≡ view.has_padding
  pub extension_is : fixed.has_extension ≡ (if view.block_form == 0 then 0 else 1)
  pub marker_is : fixed.marker ≡ view.marker
  pub payload_type_is : fixed.payload_type ≡ view.payload_type
  pub number_is : fixed.sequence_number ≡ view.sequence_number
  pub timestamp_is : fixed.timestamp ≡ view.timestamp
  pub ssrc_is : fixed.ssrc ≡ view.ssrc
  pub payload_at_is : layout.payload_at ≡ view.payload_at
  pub unpadded_is : layout.unpadded_len ≡ view.unpadded_len
  pub body_at_is : layout.body_at ≡ view.body_at
  pub profile_is : layout.block_profile ≡ view.block_profile
  pub form_is : layout.block_form ≡ view.block_form
  pub sources_are : layout.csrc_count ≡ view.csrc_count
  pub fits_is : layout.padding_fits ≡ view.padding_fits

-- what the two structs say is what C is told of a packet with these bytes and parts
pub record IsFixedPartRead (bytes : List ℕ) (parts : PacketParts) (fixed : FixedView) (layout : LayoutView) : Type 0 where
  pub view : PacketView
  pub is_view : IsViewOf bytes parts view
  pub are_of : AreOfView view fixed layout
