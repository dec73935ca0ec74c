-- Why bytes are no packet, and why they begin with no header (RFC 3550, 5.1, 5.3.1 and A.1; RFC 8285, 4).
use Rattle.std.specs.Prelude.{◌≡◌, ◌≢◌, ℕ, ◌+◌, ◌*◌, ◌/◌, ◌%◌, ◌<◌, List, length, drop, slice_index}
use Rattle.rtp_wire.specs.Block.{word_at, IsNoFormWord}

-- no block begins here, of whatever form: its header is cut short, or it is longer than what is left
pub data IsCutBlock (bytes : List ℕ) : Type 0 where
  cut_header : length bytes < 4 → IsCutBlock bytes
  cut_words : length bytes < 4 + 4 * word_at bytes 2 → IsCutBlock bytes

-- the bytes of the fixed part and of the sources that the first byte counts
abbrev pub sources_end : List ℕ → ℕ
sources_end bytes = 12 + 4 * (slice_index bytes 0 % 16)

-- the bytes are no packet: there are not twelve, the version isn't 2, the sources are cut short, or X is set and no block follows them
pub data IsNoPacket (bytes : List ℕ) : Type 0 where
  cut_fixed : length bytes < 12 → IsNoPacket bytes
  other_version : slice_index bytes 0 / 64 ≢ 2 → IsNoPacket bytes
  cut_sources : length bytes < sources_end bytes → IsNoPacket bytes
  cut_block : slice_index bytes 0 / 16 % 2 ≡ 1 → IsCutBlock (drop (sources_end bytes) bytes) → IsNoPacket bytes

-- X is set, and what follows the sources begins with the word of neither form
abbrev pub HasUnknownForm : List ℕ → Type 0
HasUnknownForm bytes = (slice_index bytes 0 / 16 % 2 ≡ 1) × IsNoFormWord (word_at (drop (sources_end bytes) bytes) 0)

-- no header begins here: the bytes are no packet, or the form of their block is unknown
pub data HasNoHeader (bytes : List ℕ) : Type 0 where
  no_packet : IsNoPacket bytes → HasNoHeader bytes
  unknown_form : HasUnknownForm bytes → HasNoHeader bytes
