-- The RTP header and a block of any elements, as they are written (RFC 3550, 5.1 and 5.3.1; RFC 8285, 4.2 and 4.3).
use Rattle.std.specs.Prelude.{ℕ, ◌<◌, List, length, true, Option, Some}
use Rattle.rtp_ext.specs.declared.form.ExtensionsForm.{ExtensionsForm}
use Rattle.rtp_ext.specs.Elements.{Element, elements_bytes}
use Rattle.rtp_ext.specs.ElementsInARow.{form_given, AreNotWritableIn}
use Rattle.rtp_ext.specs.WrittenBlock.{filled, block_of}
use Rattle.rtp_wire.specs.declared.header.rtp_header.RtpHeader.{RtpHeader}
use Rattle.rtp_wire.specs.Packet.{PacketParts}
use Rattle.rtp_wire.specs.Written.{header_bytes, parts_written}

-- the header with X set
abbrev pub with_block : RtpHeader → RtpHeader
with_block h = record h { has_extension = true }

-- the body of the block: the elements in the form that serves for them, or that alone is allowed, and zeros that fill the last word
abbrev pub body_with : Option ExtensionsForm → List Element → List ℕ
body_with allowed elements = filled (elements_bytes (form_given allowed elements) elements)

-- the bytes of the header with X set, and of the block
unfoldable pub wire_bytes_with : RtpHeader → Option ExtensionsForm → List Element → List ℕ
wire_bytes_with h allowed elements = header_bytes (with_block h) (block_of (form_given allowed elements) (body_with allowed elements))

-- the parts of the packet that they make with this payload after them
abbrev pub parts_with : RtpHeader → Option ExtensionsForm → List Element → List ℕ → PacketParts
parts_with h allowed elements payload = parts_written (with_block h) (Some (form_given allowed elements, body_with allowed elements)) payload

-- the header can't be written with these elements to a buffer of this room: its payload type has more than seven bits, it counts more than fifteen sources, the elements can't be written in their form in the 65,535 words of four bytes that a block can have, or the room is short
pub data CannotBeWrittenWith (h : RtpHeader) (allowed : Option ExtensionsForm) (elements : List Element) (room : ℕ) : Type 0 where
  large_payload_type : 127 < h.payload_type → CannotBeWrittenWith h allowed elements room
  many_sources : 15 < h.csrc_count → CannotBeWrittenWith h allowed elements room
  no_block : AreNotWritableIn (form_given allowed elements) elements 262140 → CannotBeWrittenWith h allowed elements room
  short_room : room < length (wire_bytes_with h allowed elements) → CannotBeWrittenWith h allowed elements room
