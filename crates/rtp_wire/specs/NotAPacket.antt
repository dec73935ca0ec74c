-- Why a datagram is no packet, in the order of its bytes (RFC 3550, 5.1, 5.3.1 and A.1).
use Rattle.std.specs.Prelude.{◌≡◌, ◌≢◌, ℕ, ◌+◌, ◌*◌, ◌/◌, ◌%◌, ◌<◌, List, length, drop, slice_index}
use Rattle.rtp_wire.specs.declared.packet.not_a_packet.NotAPacket.{NotAPacket}
use Rattle.rtp_wire.specs.declared.packet.not_a_packet.NotAPacket.TheVariants.{CutFixedPart, OtherVersion, CutSources, CutBlockHeader, CutBlock}
use Rattle.rtp_wire.specs.Block.{word_at}
use Rattle.rtp_wire.specs.NotAHeader.{sources_end}

-- the cause applies to the bytes at whose front a block is to be
abbrev pub AppliesToBlock : List ℕ → NotAPacket → Type 0
AppliesToBlock bytes CutFixedPart = ⊥
AppliesToBlock bytes OtherVersion = ⊥
AppliesToBlock bytes CutSources = ⊥
AppliesToBlock bytes CutBlockHeader = length bytes < 4
AppliesToBlock bytes CutBlock = length bytes < 4 + 4 * word_at bytes 2

-- X is set, and the cause applies to what follows the sources
abbrev pub AppliesAfterSources : List ℕ → NotAPacket → Type 0
AppliesAfterSources bytes cause = (slice_index bytes 0 / 16 % 2 ≡ 1) × AppliesToBlock (drop (sources_end bytes) bytes) cause

-- the cause applies to the bytes of a datagram
abbrev pub Applies : List ℕ → NotAPacket → Type 0
Applies bytes CutFixedPart = length bytes < 12
Applies bytes OtherVersion = slice_index bytes 0 / 64 ≢ 2
Applies bytes CutSources = length bytes < sources_end bytes
Applies bytes CutBlockHeader = AppliesAfterSources bytes CutBlockHeader
Applies bytes CutBlock = AppliesAfterSources bytes CutBlock

-- the place of a cause in the order of reading
abbrev pub place_of : NotAPacket → ℕ
place_of CutFixedPart = 0
place_of OtherVersion = 1
place_of CutSources = 2
place_of CutBlockHeader = 3
place_of CutBlock = 4

-- of the causes that apply, this one has the first place
pub record IsFirstBy {Cause : Type 0} (place : Cause → ℕ) (Fact : Cause → Type 0) (cause : Cause) : Type 0 where
  pub applies : Fact cause
  pub none_before : (earlier : Cause) → place earlier < place cause → Fact earlier → ⊥

-- the same of the causes against a packet
abbrev pub IsFirstOf : (NotAPacket → Type 0) → NotAPacket → Type 0
IsFirstOf Fact cause = IsFirstBy place_of Fact cause

-- the cause for which the bytes of a datagram are no packet: it applies, and none before it does
abbrev pub IsFirstCause : List ℕ → NotAPacket → Type 0
IsFirstCause bytes cause = IsFirstOf (Applies bytes) cause
