-- Why no header begins a datagram, in the order of its bytes: a cause against a packet, or the unknown form of its block (RFC 3550, 5.1, 5.3.1 and A.1; RFC 8285, 4).
use Rattle.std.specs.Prelude.{ℕ, List}
use Rattle.rtp_wire.specs.declared.header.not_a_header.NotAHeader.{NotAHeader}
use Rattle.rtp_wire.specs.declared.header.not_a_header.NotAHeader.TheVariants.{NotAPacket, UnknownForm}
use Rattle.rtp_wire.specs.NotAHeader.{HasUnknownForm}
use Rattle.rtp_wire.specs.declared.packet.not_a_packet.NotAPacket.TheVariants.{CutFixedPart, OtherVersion, CutSources, CutBlockHeader, CutBlock}
use Rattle.rtp_wire.specs.NotAPacket.{Applies, IsFirstBy}

-- the cause applies to the bytes of a datagram
abbrev pub AppliesToHeader : List ℕ → NotAHeader → Type 0
AppliesToHeader bytes (NotAPacket cause) = Applies bytes cause
AppliesToHeader bytes UnknownForm = HasUnknownForm bytes

-- the place of a cause in the order of reading: the form is looked at once the block's first four bytes are there, and before its words are counted
abbrev pub header_place_of : NotAHeader → ℕ
header_place_of (NotAPacket CutFixedPart) = 0
header_place_of (NotAPacket OtherVersion) = 1
header_place_of (NotAPacket CutSources) = 2
header_place_of (NotAPacket CutBlockHeader) = 3
header_place_of UnknownForm = 4
header_place_of (NotAPacket CutBlock) = 5

-- the cause for which no header begins the datagram: it applies, and none before it does
abbrev pub IsFirstHeaderCause : List ℕ → NotAHeader → Type 0
IsFirstHeaderCause bytes cause = IsFirstBy header_place_of (AppliesToHeader bytes) cause
