-- The RTP header as it is read (RFC 3550, 5.1): the parts of a packet before its payload, with the values of the block.
use Rattle.std.specs.Prelude.{ℕ, ◌≡◌, ◌-◌, List, ◌++◌, length, replicate, Bool, true, false, Option, None}
use Rattle.rtp_ext.specs.declared.form.ExtensionsForm.{ExtensionsForm}
use Rattle.rtp_ext.specs.declared.map.ExtensionMap.{ExtensionMap}
use Rattle.rtp_values.specs.declared.value.values.ExtensionValues.{ExtensionValues}
use Rattle.rtp_wire.specs.declared.header.rtp_header.RtpHeader.{RtpHeader}
use Rattle.rtp_values.specs.Values.{no_values}
use Rattle.rtp_wire.specs.Packet.{PacketParts, IsAnnounced, IsPacket, header_len_of}
use Rattle.rtp_wire.specs.PacketElements.{HasValues}

-- what stands between the CSRC list and the payload, and the values in it: nothing where X is clear, a block of one of the two forms where it is set
pub record IsExtensionPart (exts : ExtensionMap) (extension : Bool) (part : List ℕ) (values : ExtensionValues) : Type 0 where
  pub block : Option (ExtensionsForm × List ℕ)
  pub is_part : IsAnnounced extension block part
  pub has_values : HasValues exts block values

-- the header of these parts, with these values: version 2, and a zero in each of the fifteen slots after the sources
abbrev pub header_of : PacketParts → ExtensionValues → RtpHeader
header_of parts values = record {
  version = 2;
  has_padding = parts.has_padding;
  has_extension = parts.has_extension;
  csrc_count = length parts.sources;
  marker = parts.marker;
  payload_type = parts.payload_type;
  sequence_number = parts.sequence_number;
  timestamp = parts.timestamp;
  ssrc = parts.ssrc;
  csrc = parts.sources ++ replicate (15 - length parts.sources) 0;
  ext_vals = values;
  header_len = header_len_of parts;
}

-- the header of these parts, whose values are those that the block gives under the map
pub record IsHeaderOf (exts : ExtensionMap) (parts : PacketParts) (h : RtpHeader) : Type 0 where
  pub fields_are : h ≡ header_of parts h.ext_vals
  pub values_are : HasValues exts parts.block h.ext_vals

-- the bytes begin with this header: they are a packet without a block of another form, and it is the header of its parts
pub record IsWire (exts : ExtensionMap) (bytes : List ℕ) (h : RtpHeader) : Type 0 where
  pub parts : PacketParts
  pub is_packet : IsPacket bytes parts
  pub no_other : parts.other_block ≡ None
  pub is_header : IsHeaderOf exts parts h

-- version 2, payload type 1 and a block without words; all else is 0, false or absent
abbrev pub default_header : RtpHeader
default_header = record {
  version = 2;
  has_padding = false;
  has_extension = true;
  csrc_count = 0;
  marker = false;
  payload_type = 1;
  sequence_number = 0;
  timestamp = 0;
  ssrc = 0;
  csrc = replicate 15 0;
  ext_vals = no_values;
  header_len = 16;
}
