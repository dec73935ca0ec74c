-- A packet whose elements are changed where they lie (RFC 8285, 4.2 and 4.3).
use Rattle.std.specs.Prelude.{ℕ, List}
use Rattle.rtp_ext.specs.declared.form.ExtensionsForm.{ExtensionsForm}
use Rattle.rtp_wire.specs.Packet.{PacketParts, IsPacket}
use Rattle.rtp_wire.specs.ChangedPacket.{ChangesBlock}
use Rattle.rtp_wire.specs.PacketElements.{HasValues}
use Rattle.rtp_ext.specs.ExtensionMap.{Slots}
use Rattle.rtp_values.specs.declared.value.values.ExtensionValues.{ExtensionValues}

-- the bytes are a packet which the change of the body makes of these parts
pub record BecomesPacket (Change : ExtensionsForm → List ℕ → List ℕ → Type 0) (was : PacketParts) (bytes : List ℕ) : Type 0 where
  pub parts : PacketParts
  pub is_packet : IsPacket bytes parts
  pub changes : ChangesBlock Change was parts

-- the bytes are a packet whose block gives these values under the map
pub record GivesValues (exts : Slots) (values : ExtensionValues) (bytes : List ℕ) : Type 0 where
  pub parts : PacketParts
  pub is_packet : IsPacket bytes parts
  pub has_values : HasValues exts parts.block values
