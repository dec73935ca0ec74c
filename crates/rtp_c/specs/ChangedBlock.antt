-- What becomes of the block of a packet in a buffer, and what keeps it from that (RFC 3550, 5.3.1; RFC 8285, 4.1.2, 4.2 and 4.3).
use Rattle.std.specs.Prelude.{◌≡◌, ◌≢◌, ℕ, ◌+◌, ◌*◌, ◌%◌, ◌<◌, ◌≤◌, List, length, take, Option, Some, ℤ}
use Rattle.rtp_ext.specs.declared.form.ExtensionsForm.{ExtensionsForm}
use Rattle.rtp_ext.specs.Elements.{Element}
use Rattle.rtp_wire.specs.declared.packet.not_put.NotPut.{NotPut}
use Rattle.rtp_wire.specs.declared.packet.not_put.NotPut.TheVariants.{CutPacket, ZeroId, LongData, NotAPacket, OtherForm, LongId, OneByteOnly, LongBlock, NoRoom}
use Rattle.rtp_wire.specs.NotAPacket.{IsFirstCause}
use Rattle.rtp_wire.specs.Packet.{PacketParts, IsPacket}
use Rattle.rtp_wire.specs.PartsAt.{form_in, profile_in}
use Rattle.rtp_wire.specs.RemadeBlock.{KeepsFromForm, KeepsFromAdding}
use Rattle.rtp_wire.specs.ReplacedBlock.{without_block, with_block}
use Rattle.rtp_c.specs.Status.{bad_field, long_block, short_buffer, IsCauseStatus}

-- the cause for which the buffer doesn't begin with a packet of so many bytes
abbrev pub IsNoFront : List ℕ → ℕ → NotPut → Type 0
IsNoFront buf len CutPacket = length buf < len
IsNoFront buf len ZeroId = ⊥
IsNoFront buf len LongData = ⊥
IsNoFront buf len (NotAPacket cause) = (len ≤ length buf) × IsFirstCause (take len buf) cause
IsNoFront buf len OtherForm = ⊥
IsNoFront buf len LongId = ⊥
IsNoFront buf len OneByteOnly = ⊥
IsNoFront buf len LongBlock = ⊥
IsNoFront buf len (NoRoom needed) = ⊥

-- the cause against the packet in so many first bytes of the buffer: there are fewer, they are no packet, or this keeps the packet from a change
abbrev pub KeepsInBuffer : List ℕ → ℕ → (NotPut → Type 0) → NotPut → Type 0
KeepsInBuffer buf len Keeps CutPacket = length buf < len
KeepsInBuffer buf len Keeps ZeroId = Keeps ZeroId
KeepsInBuffer buf len Keeps LongData = Keeps LongData
KeepsInBuffer buf len Keeps (NotAPacket cause) = IsFirstCause (take len buf) cause
KeepsInBuffer buf len Keeps OtherForm = Keeps OtherForm
KeepsInBuffer buf len Keeps LongId = Keeps LongId
KeepsInBuffer buf len Keeps OneByteOnly = Keeps OneByteOnly
KeepsInBuffer buf len Keeps LongBlock = Keeps LongBlock
KeepsInBuffer buf len Keeps (NoRoom needed) = Keeps (NoRoom needed)

-- it keeps the block of that packet from this form
abbrev pub KeepsBlock : List ℕ → ℕ → ExtensionsForm → NotPut → Type 0
KeepsBlock buf len form cause = KeepsInBuffer buf len (KeepsFromForm (take len buf) (length buf) (form_in (take len buf)) form) cause

-- it keeps the element from a place behind those of that packet
abbrev pub KeepsElement : List ℕ → ℕ → Element → Option ExtensionsForm → NotPut → Type 0
KeepsElement buf len element allowed cause = KeepsInBuffer buf len (KeepsFromAdding (take len buf) (length buf) (form_in (take len buf)) element allowed) cause

-- the first bytes, so many of them, are the packet without its block
pub record TakesBlockOff (old new : List ℕ) (len : ℕ) : Type 0 where
  pub parts : PacketParts
  pub was_packet : IsPacket old parts
  pub is_packet : IsPacket (take len new) (without_block parts)

-- they are the packet with a block that begins with these 16 bits and has this body, in place of its own
pub record PutsBlock (old : List ℕ) (profile : ℕ) (body new : List ℕ) (len : ℕ) : Type 0 where
  pub parts : PacketParts
  pub was_packet : IsPacket old parts
  pub is_packet : IsPacket (take len new) (with_block profile body parts)
  pub profile_is : profile_in (take len new) ≡ Some profile

-- a block can have the body: whole words, and no more than 65,535
abbrev pub IsBody : List ℕ → Type 0
IsBody body = (length body % 4 ≡ 0) × (length body ≤ 4 * 65535)

-- the status of the first fault for which a block of this body isn't put into the packet in so many first bytes of the buffer
pub data IsBlockFault (buf : List ℕ) (len : ℕ) (body : List ℕ) (status : ℤ) : Type 0 where
  cut_packet : length buf < len → status ≡ bad_field → IsBlockFault buf len body status
  cut_word : length body % 4 ≢ 0 → status ≡ bad_field → IsBlockFault buf len body status
  long : len ≤ length buf → length body % 4 ≡ 0 → 4 * 65535 < length body → status ≡ long_block → IsBlockFault buf len body status
  no_packet : len ≤ length buf → IsBody body → IsCauseStatus (take len buf) status → IsBlockFault buf len body status
  no_room : (parts : PacketParts) → len ≤ length buf → IsBody body → IsPacket (take len buf) parts → length buf < 12 + 4 * length parts.sources + (4 + length body) + length parts.payload → status ≡ short_buffer → IsBlockFault buf len body status
