-- The statuses of a header that isn't read.
use Rattle.rtp_c.proofs.Common.{◌≡◌, ℕ, List, ℤ, Option, Some, None, true, refl, is_some, false≢true, HasNoHeader, no_packet, unknown_form, PacketParts, IsPacket, IsNoPacket-applies, IsFirstHeaderCause-other_form}
use Rattle.rtp_wire.specs.declared.header.not_a_header.NotAHeader.{NotAHeader as Cause}
use Rattle.rtp_wire.specs.declared.header.not_a_header.NotAHeader.TheVariants.{NotAPacket, UnknownForm}
use Rattle.rtp_wire.specs.NoHeaderCause.{AppliesToHeader}
use Rattle.rtp_c.specs.Status.{unknown_form as unknown_form_status, IsHeaderStatus}

-- bytes to which a cause applies begin with no header
pub HasNoHeader-status : (bytes : List ℕ) (status : ℤ) → IsHeaderStatus bytes status → HasNoHeader bytes
HasNoHeader-status bytes status is = begins_none is.cause is.is_first.applies
  where
    begins_none : (cause : Cause) → AppliesToHeader bytes cause → HasNoHeader bytes
    begins_none (NotAPacket cause) applies = no_packet (IsNoPacket-applies bytes cause applies)
    begins_none UnknownForm applies = unknown_form applies

-- the status of a packet whose block is of another form
pub IsHeaderStatus-other : (bytes : List ℕ) (parts : PacketParts) (other : Option (ℕ × List ℕ)) → IsPacket bytes parts → parts.other_block ≡ other → is_some other ≡ true
    → IsHeaderStatus bytes unknown_form_status
IsHeaderStatus-other bytes parts None is other-is some = absurd (false≢true some)
IsHeaderStatus-other bytes parts (Some other) is other-is some =
    record { cause = UnknownForm; is_first = IsFirstHeaderCause-other_form bytes parts other is other-is; status_is = refl }
