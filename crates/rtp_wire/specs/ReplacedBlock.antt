-- A packet whose block is taken off, or gives way to another one (RFC 3550, 5.3.1).
use Rattle.std.specs.Prelude.{◌≡◌, ◌≢◌, ℕ, ◌+◌, ◌*◌, ◌%◌, ◌<◌, List, length, true, false, if◌then◌else◌, Some, None, option_map, is_some}
use Rattle.rtp_wire.specs.declared.packet.block_not_put.BlockNotPut.{BlockNotPut}
use Rattle.rtp_wire.specs.declared.packet.block_not_put.BlockNotPut.TheVariants.{CutWord, LongBlock, NoRoom}
use Rattle.rtp_wire.specs.NotAPacket.{IsFirstBy}
use Rattle.rtp_wire.specs.Packet.{PacketParts}
use Rattle.rtp_wire.specs.PartsAt.{form_of_word}

-- what the packet says without its block, whatever form that has
abbrev pub without_block : PacketParts → PacketParts
without_block parts = record parts { has_extension = false; block = None; other_block = None }

-- what it says with a block of these 16 bits and this body: one of the form that they announce, or of another form
abbrev pub with_block : ℕ → List ℕ → PacketParts → PacketParts
with_block profile body parts = record parts {
  has_extension = true;
  block = option_map (λ form. (form, body)) (form_of_word profile);
  other_block = if is_some (form_of_word profile) then None else Some (profile, body);
}

-- the cause keeps a block of this body from a packet in a buffer of so many bytes
abbrev pub KeepsFromBlock : PacketParts → List ℕ → ℕ → BlockNotPut → Type 0
KeepsFromBlock parts body room CutWord = length body % 4 ≢ 0
KeepsFromBlock parts body room LongBlock = 4 * 65535 < length body
KeepsFromBlock parts body room (NoRoom needed) = (needed ≡ 12 + 4 * length parts.sources + (4 + length body) + length parts.payload) × (room < needed)

-- the place of a cause in the order of looking
abbrev pub block_place : BlockNotPut → ℕ
block_place CutWord = 0
block_place LongBlock = 1
block_place (NoRoom needed) = 2

-- of the causes that apply, this one is the first
abbrev pub IsFirstBlockNotPut : (BlockNotPut → Type 0) → BlockNotPut → Type 0
IsFirstBlockNotPut Fact cause = IsFirstBy block_place Fact cause
