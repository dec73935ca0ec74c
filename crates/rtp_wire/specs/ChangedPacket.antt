-- A packet that is changed where it lies (RFC 3550, 5.1; RFC 8285, 4.2 and 4.3).
use Rattle.std.specs.Prelude.{◌≡◌, ℕ, ◌+◌, List, length, take, drop, Some, false}
use Rattle.rtp_ext.specs.declared.form.ExtensionsForm.{ExtensionsForm}
use Rattle.rtp_wire.specs.NotAHeader.{sources_end}
use Rattle.rtp_wire.specs.Packet.{PacketParts, IsPacket, IsWithoutPadding}
use Rattle.rtp_wire.specs.PartsAt.{header_end}

-- no byte changes before the first offset, and none from the second one on
pub record ChangesOnly (start end : ℕ) (old new : List ℕ) : Type 0 where
  pub length_is : length new ≡ length old
  pub before_is : take start new ≡ take start old
  pub after_is : drop end new ≡ drop end old

-- only bytes of the block's body change: those between the four bytes before it and the payload
abbrev pub ChangesOnlyBody : List ℕ → List ℕ → Type 0
ChangesOnlyBody old new = ChangesOnly (sources_end old + 4) (header_end old) old new

-- the body of the block becomes another one, as the change says, and all other parts stay
pub record ChangesBlock (Change : ExtensionsForm → List ℕ → List ℕ → Type 0) (old new : PacketParts) : Type 0 where
  pub form : ExtensionsForm
  pub was : List ℕ
  pub body : List ℕ
  pub block_was : old.block ≡ Some (form, was)
  pub changes : Change form was body
  pub parts_are : new ≡ record old { block = Some (form, body) }

-- the first bytes, so many of them, are the packet without its padding: P is clear, the payload is what was before the padding, and all other parts are as they were
pub record HasUnpadded (was : PacketParts) (bytes : List ℕ) (len : ℕ) : Type 0 where
  pub payload : List ℕ
  pub payload_is : IsWithoutPadding was.has_padding was.payload payload
  pub is_packet : IsPacket (take len bytes) (record was { has_padding = false; payload = payload })
