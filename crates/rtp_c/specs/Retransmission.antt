-- Retransmissions, and the ids that their elements get (RFC 4588, 4; RFC 8852, 3).
use Rattle.std.specs.Prelude.{◌≡◌, ℕ, List, ℤ}
use Rattle.rtp_values.specs.declared.kind.Extension.{Extension}
use Rattle.rtp_ext.specs.ExtensionMap.{Slots}
use Rattle.rtp_ext.specs.NewIds.{AreRenamedIds, ids_in_bytes}
use Rattle.rtp_wire.specs.declared.packet.not_retransmitted.NotRetransmitted.{NotRetransmitted}
use Rattle.rtp_wire.specs.declared.packet.not_retransmitted.NotRetransmitted.TheVariants.{CutPacket, NotAPacket, PaddingTooLong, NoOriginalNumber, NewIdTooHigh, NoRoom}
use Rattle.rtp_wire.specs.Retransmission.{IsFirstOf}
use Rattle.rtp_c.specs.Status.{bad_field, none, short_buffer, long_id, cause_status}
use Rattle.rtp_c.specs.StoredMap.{HasKinds}

-- by the bytes elements of one extension become elements of another, under the map of these numbers
pub record RenameKinds (from to : Extension) (numbers bytes : List ℕ) : Type 0 where
  pub slots : Slots
  pub has_kinds : HasKinds numbers slots
  pub renamed : AreRenamedIds slots from to (ids_in_bytes bytes)

-- the status of each cause for which a packet doesn't become a retransmission, or the packet that it repeats
abbrev pub retransmission_status : NotRetransmitted → ℤ
retransmission_status CutPacket = bad_field
retransmission_status (NotAPacket cause) = cause_status cause
retransmission_status PaddingTooLong = bad_field
retransmission_status NoOriginalNumber = none
retransmission_status NewIdTooHigh = long_id
retransmission_status NoRoom = short_buffer

-- the status of the first cause that applies
pub record IsRefusal (Applies : NotRetransmitted → Type 0) (status : ℤ) : Type 0 where
  pub cause : NotRetransmitted
  pub is_first : IsFirstOf Applies cause
  pub status_is : status ≡ retransmission_status cause
