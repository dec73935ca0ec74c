-- The statuses that the functions for C return.
use Rattle.std.specs.Prelude.{◌≡◌, ℕ, List, ℤ, pos}
use Rattle.rtp_wire.specs.declared.header.not_a_header.NotAHeader as not_a_header
use Rattle.rtp_wire.specs.declared.packet.not_a_packet.NotAPacket.{NotAPacket}
use Rattle.rtp_wire.specs.declared.packet.not_a_packet.NotAPacket.TheVariants.{CutFixedPart, OtherVersion, CutSources, CutBlockHeader, CutBlock}
use Rattle.rtp_wire.specs.NoHeaderCause.{IsFirstHeaderCause}
use Rattle.rtp_wire.specs.NotAPacket.{IsFirstCause}

-- the call did what it is for
abbrev pub ok : ℤ
ok = pos 0

-- the status of each cause for which bytes are no packet
abbrev pub cause_status : NotAPacket → ℤ
cause_status CutFixedPart = pos 1
cause_status OtherVersion = pos 2
cause_status CutSources = pos 3
cause_status CutBlockHeader = pos 4
cause_status CutBlock = pos 6

-- a block whose form is neither of the two, where one of these is owed
abbrev pub unknown_form : ℤ
unknown_form = pos 5

-- the status of each cause for which bytes begin with no header
abbrev pub header_status : not_a_header.NotAHeader → ℤ
header_status (not_a_header.TheVariants.NotAPacket cause) = cause_status cause
header_status not_a_header.TheVariants.UnknownForm = unknown_form

-- a buffer is too short
abbrev pub short_buffer : ℤ
short_buffer = pos 8

-- a value that no packet can carry
abbrev pub bad_field : ℤ
bad_field = pos 9

-- a replay, or too old to tell
abbrev pub refused : ℤ
refused = pos 10

-- there is no such element
abbrev pub none : ℤ
none = pos 11

-- a packet is taken, as the first one after its sender has started again
abbrev pub restarted : ℤ
restarted = pos 12

-- the id 0, which no element has
abbrev pub bad_id : ℤ
bad_id = pos 13

-- the block has, or the element needs, a form that isn't allowed
abbrev pub form_not_allowed : ℤ
form_not_allowed = pos 14

-- a block of more than 65,535 words
abbrev pub long_block : ℤ
long_block = pos 15

-- an id above 14, which the one-byte form can't carry
abbrev pub long_id : ℤ
long_id = pos 16

-- a datagram is RTCP
abbrev pub rtcp : ℤ
rtcp = pos 17

-- the status of the first cause for which these bytes are no packet
pub record IsCauseStatus (bytes : List ℕ) (status : ℤ) : Type 0 where
  pub cause : NotAPacket
  pub is_first : IsFirstCause bytes cause
  pub status_is : status ≡ cause_status cause

-- the status of the first cause for which these bytes begin with no header
pub record IsHeaderStatus (bytes : List ℕ) (status : ℤ) : Type 0 where
  pub cause : not_a_header.NotAHeader
  pub is_first : IsFirstHeaderCause bytes cause
  pub status_is : status ≡ header_status cause
