-- The RTP header as it is written (RFC 3550, 5.1), and the header that the written bytes are read as.
use Rattle.std.specs.Prelude.{ℕ, ◌+◌, ◌-◌, ◌*◌, ◌<◌, List, [], ◌∷◌, ◌++◌, length, take, replicate, Bool, true, false, Option, None}
use Rattle.std.specs.List.{flat_map}
use Rattle.std.specs.Int.{w16, w32, to_be_bytes}
use Rattle.rtp_ext.specs.declared.form.ExtensionsForm.{ExtensionsForm}
use Rattle.rtp_ext.specs.declared.map.ExtensionMap.{ExtensionMap}
use Rattle.rtp_values.specs.declared.value.values.ExtensionValues.{ExtensionValues}
use Rattle.rtp_wire.specs.declared.header.rtp_header.RtpHeader.{RtpHeader}
use Rattle.rtp_values.specs.Values.{no_values}
use Rattle.rtp_ext.specs.WrittenBlock.{block_bytes, image_values}
use Rattle.rtp_base.specs.Flag.{bit}
use Rattle.rtp_wire.specs.Packet.{PacketParts}

-- the twelve fixed bytes, with version 2 whatever the header's field holds
abbrev pub fixed_bytes : RtpHeader → List ℕ
fixed_bytes h =
    (2 * 64 + bit h.has_padding * 32 + bit h.has_extension * 16 + h.csrc_count)
    ∷ (bit h.marker * 128 + h.payload_type)
    ∷ (to_be_bytes w16 h.sequence_number ++ (to_be_bytes w32 h.timestamp ++ to_be_bytes w32 h.ssrc))

-- four bytes for each source that counts
abbrev pub source_bytes : RtpHeader → List ℕ
source_bytes h = flat_map (to_be_bytes w32) (take h.csrc_count h.csrc)

-- the fixed bytes, the sources, and what stands between these and the payload
abbrev pub header_bytes : RtpHeader → List ℕ → List ℕ
header_bytes h part = fixed_bytes h ++ (source_bytes h ++ part)

-- the parts of the packet that a header with this block makes with this payload after it
abbrev pub parts_written : RtpHeader → Option (ExtensionsForm × List ℕ) → List ℕ → PacketParts
parts_written h block payload = record {
  has_padding = h.has_padding;
  has_extension = h.has_extension;
  marker = h.marker;
  payload_type = h.payload_type;
  sequence_number = h.sequence_number;
  timestamp = h.timestamp;
  ssrc = h.ssrc;
  sources = take h.csrc_count h.csrc;
  block = block;
  other_block = None;
  payload = payload;
}

-- a block where X is set, and nothing where it is clear
abbrev pub extension_bytes : ExtensionMap → Bool → ExtensionValues → List ℕ
extension_bytes exts false values = []
extension_bytes exts true values = block_bytes exts values

-- the bytes of the header under the map
unfoldable pub wire_bytes : ExtensionMap → RtpHeader → List ℕ
wire_bytes exts h = header_bytes h (extension_bytes exts h.has_extension h.ext_vals)

-- the values that the written block is read as, and none without a block
abbrev pub carried_image : ExtensionMap → Bool → ExtensionValues → ExtensionValues
carried_image exts false values = no_values
carried_image exts true values = image_values exts values

-- what the written bytes are read as: version 2, a zero in each slot after the CSRC list, the written length, and the values of the written block
unfoldable pub image_of : ExtensionMap → RtpHeader → RtpHeader
image_of exts h = record h {
  version = 2;
  csrc = take h.csrc_count h.csrc ++ replicate (15 - h.csrc_count) 0;
  ext_vals = carried_image exts h.has_extension h.ext_vals;
  header_len = length (wire_bytes exts h);
}

-- the header with these values in place of its own
abbrev pub with_values : RtpHeader → ExtensionValues → RtpHeader
with_values h values = record h { ext_vals = values }

-- the header can't be written to a buffer of this room: its payload type has more than seven bits, it counts more than fifteen sources, or the room is short
pub data CannotBeWritten (exts : ExtensionMap) (h : RtpHeader) (room : ℕ) : Type 0 where
  large_payload_type : 127 < h.payload_type → CannotBeWritten exts h room
  many_sources : 15 < h.csrc_count → CannotBeWritten exts h room
  short_room : room < length (wire_bytes exts h) → CannotBeWritten exts h room
