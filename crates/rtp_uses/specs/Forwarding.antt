-- What is sent on of a packet (RFC 3550, 5.1).
use Rattle.std.specs.Prelude.{◌≡◌, ℕ, ◌%◌}
use Rattle.rtp_values.specs.declared.value.values.ExtensionValues.{ExtensionValues}
use Rattle.rtp_ext.specs.ExtensionMap.{Slots}
use Rattle.rtp_ext.specs.WrittenBlock.{mapped_fields}
use Rattle.rtp_wire.specs.Packet.{PacketParts}
use Rattle.rtp_wire.specs.PacketElements.{HasValues}

-- a packet is sent on in another stream: it has that source and the low 16 bits of its number there, its block may be another one, and all other parts stay
pub record IsForwarded (from to : Slots) (ssrc number : ℕ) (was sent : PacketParts) : Type 0 where
  pub parts_are : sent ≡ record was { ssrc = ssrc; sequence_number = number % 65536; block = sent.block }
  -- the block says under the receiver's map what it said under the sender's, of the kinds that the receiver's has, and no other
  pub values_are : (values : ExtensionValues) → HasValues from was.block values → HasValues to sent.block (mapped_fields to values)
