-- The parts of a packet at their offsets in its bytes.
use Rattle.std.specs.Prelude.{◌≡◌, ℕ, ◌+◌, ◌*◌, ◌/◌, ◌%◌, List, length, drop, map, slice_index, slice_range, Bool, nat_eq, nat_le, ◌&&◌, if◌then◌else◌, Option, Some, None, option_map, is_some}
use Rattle.std.specs.Int.{w32, from_be_bytes}
use Rattle.std.specs.Simd.{first_chunks}
use Rattle.rtp_ext.specs.declared.form.ExtensionsForm.{ExtensionsForm}
use Rattle.rtp_ext.specs.declared.form.ExtensionsForm.TheVariants.{OneByte, TwoByte}
use Rattle.rtp_wire.specs.Block.{word_at}
use Rattle.rtp_wire.specs.NotAHeader.{sources_end}
use Rattle.rtp_wire.specs.Packet.{PacketParts, IsPacket}

-- whether the bit of this worth is set in a byte
abbrev pub is_set : ℕ → ℕ → Bool
is_set byte worth = nat_eq (byte / worth % 2) 1

-- the form that this word announces
abbrev pub form_of_word : ℕ → Option ExtensionsForm
form_of_word word = if nat_eq word 0xBEDE then Some OneByte else (if nat_le 0x1000 word && nat_le word 0x100F then Some TwoByte else None)

-- whether X is set
abbrev pub has_block : List ℕ → Bool
has_block bytes = is_set (slice_index bytes 0) 16

-- the form of the block after the sources, where it is one of the two
unfoldable pub form_in : List ℕ → Option ExtensionsForm
form_in bytes = if has_block bytes then form_of_word (word_at (drop (sources_end bytes) bytes) 0) else None

-- the 16 bits that the block after the sources begins with, whatever its form
unfoldable pub profile_in : List ℕ → Option ℕ
profile_in bytes = if has_block bytes then Some (word_at (drop (sources_end bytes) bytes) 0) else None

-- these bits where the form is neither of the two
unfoldable pub other_in : List ℕ → Option ℕ
other_in bytes = if is_some (form_in bytes) then None else profile_in bytes

-- the end of the header: of the block where X is set, and of the sources where it is clear
unfoldable pub header_end : List ℕ → ℕ
header_end bytes = sources_end bytes + (if has_block bytes then 4 + 4 * word_at (drop (sources_end bytes) bytes) 2 else 0)

-- the parts of a packet
unfoldable pub parts_at : List ℕ → PacketParts
parts_at bytes = record {
  has_padding = is_set (slice_index bytes 0) 32;
  has_extension = has_block bytes;
  marker = is_set (slice_index bytes 1) 128;
  payload_type = slice_index bytes 1 % 128;
  sequence_number = word_at bytes 2;
  timestamp = from_be_bytes w32 (slice_range bytes 4 8);
  ssrc = from_be_bytes w32 (slice_range bytes 8 12);
  sources = map (from_be_bytes w32) (first_chunks 4 (slice_index bytes 0 % 16) (drop 12 bytes));
  block = option_map (λ form. (form, slice_range bytes (sources_end bytes + 4) (header_end bytes))) (form_in bytes);
  other_block = option_map (λ profile. (profile, slice_range bytes (sources_end bytes + 4) (header_end bytes))) (other_in bytes);
  payload = drop (header_end bytes) bytes;
}

-- the bytes are a packet with a header of this length and a block of this form; without a form there is no block, or one of another form
pub record HasLayout (bytes : List ℕ) (header_len : ℕ) (form : Option ExtensionsForm) : Type 0 where
  pub parts : PacketParts
  pub is_packet : IsPacket bytes parts
  pub form_is : form ≡ option_map (λ block. block.0) parts.block
  pub len_is : header_len + length parts.payload ≡ length bytes
