-- A packet that gets padding (RFC 3550, 5.1).
use Rattle.std.specs.Prelude.{◌≡◌, ℕ, zero, suc, ◌++◌, true}
use Rattle.rtp_wire.specs.Packet.{PacketParts}
use Rattle.rtp_wire.specs.Padding.{padding_bytes, IsPaddingLength}

-- what the packet says with so many bytes of padding behind its payload; with none it says what it said
abbrev pub with_padding : ℕ → PacketParts → PacketParts
with_padding zero parts = parts
with_padding (suc n) parts = record parts { has_padding = true; payload = parts.payload ++ padding_bytes (suc n) }

-- how many bytes of padding it gets where so many are wanted: none where none are
abbrev pub IsAddedCount : ℕ → ℕ → ℕ → Type 0
IsAddedCount zero block_size count = count ≡ 0
IsAddedCount (suc n) block_size count = IsPaddingLength (suc n) block_size count
