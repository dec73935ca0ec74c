-- An RTP packet in the bytes of a datagram (RFC 3550, 5.1).
--
--  0                   1                   2                   3
--  0 1 2 3 4 5 6 7 8 9 0 1 2 3 4 5 6 7 8 9 0 1 2 3 4 5 6 7 8 9 0 1
-- |V=2|P|X|  CC   |M|     PT      |       sequence number         |
-- |                           timestamp                           |
-- |           synchronization source (SSRC) identifier            |
-- |            contributing source (CSRC) identifiers             |
-- |                             ....                              |
-- |                  header extension, where X is set             |
-- |                            payload                            |
use Rattle.std.specs.Prelude.{◌≡◌, ℕ, ◌+◌, ◌*◌, ◌≤◌, List, [], ◌++◌, length, map, slice_index, slice_range, Bool, true, false, Option, Some, None}
use Rattle.std.specs.List.{concat, AllByRecursion}
use Rattle.std.specs.Int.{w16, w32, from_be_bytes}
use Rattle.rtp_ext.specs.declared.form.ExtensionsForm.{ExtensionsForm}
use Rattle.rtp_base.specs.Flag.{bit}
use Rattle.rtp_wire.specs.Block.{IsBlock, IsOtherBlock}
use Rattle.rtp_wire.specs.Padding.{IsUnpadded}

-- what a packet says: the flags and numbers of its header, its block as a form and a body, or where its form is neither of the two as the 16 bits that the profile defines and a body, and its payload with any padding
pub record PacketParts : Type 0 where
  pub has_padding : Bool
  pub has_extension : Bool
  pub marker : Bool
  pub payload_type : ℕ
  pub sequence_number : ℕ
  pub timestamp : ℕ
  pub ssrc : ℕ
  pub sources : List ℕ
  pub block : Option (ExtensionsForm × List ℕ)
  pub other_block : Option (ℕ × List ℕ)
  pub payload : List ℕ

-- V=2 in the top two bits, then P, X and the four bits of CC
pub record IsFirstByte (byte : ℕ) (padding extension : Bool) (count : ℕ) : Type 0 where
  pub sum : byte ≡ 2 * 64 + bit padding * 32 + bit extension * 16 + count
  pub few : count ≤ 15

-- M in the top bit, then the seven bits of PT
pub record IsSecondByte (byte : ℕ) (marker : Bool) (payload_type : ℕ) : Type 0 where
  pub sum : byte ≡ bit marker * 128 + payload_type
  pub few : payload_type ≤ 127

-- the twelve bytes that every packet begins with, and the parts in them
pub record IsFixedPart (fixed : List ℕ) (parts : PacketParts) : Type 0 where
  pub twelve : length fixed ≡ 12
  pub first_is : IsFirstByte (slice_index fixed 0) parts.has_padding parts.has_extension (length parts.sources)
  pub second_is : IsSecondByte (slice_index fixed 1) parts.marker parts.payload_type
  pub number_is : parts.sequence_number ≡ from_be_bytes w16 (slice_range fixed 2 4)
  pub timestamp_is : parts.timestamp ≡ from_be_bytes w32 (slice_range fixed 4 8)
  pub ssrc_is : parts.ssrc ≡ from_be_bytes w32 (slice_range fixed 8 12)

-- the numbers of the contributing sources, each in a group of four bytes
pub record AreSourceNumbers (groups : List (List ℕ)) (sources : List ℕ) : Type 0 where
  pub of_four : AllByRecursion (λ group. length group ≡ 4) groups
  pub numbers_are : sources ≡ map (from_be_bytes w32) groups

-- what X announces where no block is of another form: nothing where it is clear, and a block of this form and body where it is set
abbrev pub IsAnnounced : Bool → Option (ExtensionsForm × List ℕ) → List ℕ → Type 0
IsAnnounced false None part = part ≡ []
IsAnnounced false (Some block) part = ⊥
IsAnnounced true None part = ⊥
IsAnnounced true (Some block) part = IsBlock part block.0 block.1

-- what X announces: nothing where it is clear, and one block where it is set, of the two forms or of another one
abbrev pub IsAnnouncedBlock : Bool → Option (ExtensionsForm × List ℕ) → Option (ℕ × List ℕ) → List ℕ → Type 0
IsAnnouncedBlock extension block None part = IsAnnounced extension block part
IsAnnouncedBlock extension block (Some other) part = (extension ≡ true) × (block ≡ None) × IsOtherBlock part other.0 other.1

-- the bytes are a packet of these parts: the fixed bytes, a group for each source, what X announces, and all that is left is the payload
pub record IsPacket (bytes : List ℕ) (parts : PacketParts) : Type 0 where
  pub fixed : List ℕ
  pub groups : List (List ℕ)
  pub part : List ℕ
  pub in_order : bytes ≡ fixed ++ (concat groups ++ (part ++ parts.payload))
  pub fixed_is : IsFixedPart fixed parts
  pub sources_are : AreSourceNumbers groups parts.sources
  pub part_is : IsAnnouncedBlock parts.has_extension parts.block parts.other_block part

-- the bytes are a packet whose block is of another form than the two
pub record HasOtherForm (bytes : List ℕ) : Type 0 where
  pub parts : PacketParts
  pub is_packet : IsPacket bytes parts
  pub other : ℕ × List ℕ
  pub other_is : parts.other_block ≡ Some other

-- how many bytes a block takes: its four and its body
abbrev pub block_len : {A : Type 0} → Option (A × List ℕ) → ℕ
block_len None = 0
block_len (Some block) = 4 + length block.1

-- how many bytes the header takes: the fixed ones, four for each source, and those of whichever block there is
abbrev pub header_len_of : PacketParts → ℕ
header_len_of parts = 12 + 4 * length parts.sources + block_len parts.block + block_len parts.other_block

-- the payload without its padding: all of it where P is clear, and the bytes before the padding where it is set
abbrev pub IsWithoutPadding : Bool → List ℕ → List ℕ → Type 0
IsWithoutPadding false bytes payload = payload ≡ bytes
IsWithoutPadding true bytes payload = IsUnpadded bytes payload
