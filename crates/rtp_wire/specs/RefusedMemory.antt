-- Where memory may be refused to the reading of a header: at an element of its block whose data take it.
use Rattle.std.specs.Prelude.{◌≡◌, ℕ, List, Option}
use Rattle.rtp_ext.specs.declared.form.ExtensionsForm.{ExtensionsForm}
use Rattle.rtp_ext.specs.Elements.{Element}
use Rattle.rtp_ext.specs.ExtensionMap.{Slots}
use Rattle.rtp_ext.specs.Memory.{HasAllocation, IsStopped}
use Rattle.rtp_values.specs.declared.value.values.ExtensionValues.{ExtensionValues}
use Rattle.rtp_values.specs.Values.{no_values}
use Rattle.rtp_wire.specs.declared.header.rtp_header.RtpHeader.{RtpHeader}
use Rattle.rtp_wire.specs.Packet.{PacketParts, IsPacket}
use Rattle.rtp_wire.specs.PacketElements.{AreElementsOf}
use Rattle.rtp_wire.specs.Header.{header_of}

-- one of the block's elements is mapped to the layer allocation and takes memory
pub record BlockHasAllocation (exts : Slots) (block : Option (ExtensionsForm × List ℕ)) : Type 0 where
  pub elements : List Element
  pub are_elements : AreElementsOf block elements
  pub has_allocation : HasAllocation exts elements

-- the bytes are a packet with such a block
pub record HeaderHasAllocation (exts : Slots) (bytes : List ℕ) : Type 0 where
  pub parts : PacketParts
  pub is_packet : IsPacket bytes parts
  pub has_allocation : BlockHasAllocation exts parts.block

-- reading the block ended at such an element: the values are those of the elements before it
pub record AreValuesStopped (exts : Slots) (block : Option (ExtensionsForm × List ℕ)) (values : ExtensionValues) : Type 0 where
  pub elements : List Element
  pub are_elements : AreElementsOf block elements
  pub is_stopped : IsStopped exts elements no_values values

-- reading the block of these parts ended so: the header has their fields and these values
pub record IsHeaderStopped (exts : Slots) (parts : PacketParts) (h : RtpHeader) : Type 0 where
  pub fields_are : h ≡ header_of parts h.ext_vals
  pub values_are : AreValuesStopped exts parts.block h.ext_vals

-- reading the bytes ended so: they are a packet, and the header is that of its parts
pub record IsWireStopped (exts : Slots) (bytes : List ℕ) (h : RtpHeader) : Type 0 where
  pub parts : PacketParts
  pub is_packet : IsPacket bytes parts
  pub is_stopped : IsHeaderStopped exts parts h
