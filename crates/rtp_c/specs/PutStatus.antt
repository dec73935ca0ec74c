-- The statuses of an element that is put into a packet.
use Rattle.std.specs.Prelude.{◌≡◌, ℕ, List, Option, ℤ}
use Rattle.rtp_ext.specs.declared.form.ExtensionsForm.{ExtensionsForm}
use Rattle.rtp_ext.specs.Elements.{Element}
use Rattle.rtp_wire.specs.declared.packet.not_put.NotPut.{NotPut}
use Rattle.rtp_wire.specs.declared.packet.not_put.NotPut.TheVariants.{CutPacket, ZeroId, LongData, NotAPacket, OtherForm, LongId, OneByteOnly, LongBlock, NoRoom}
use Rattle.rtp_wire.specs.PutIntoPacket.{AppliesToPut, IsFirstNotPut}
use Rattle.rtp_c.specs.Status.{cause_status, unknown_form, short_buffer, bad_field, bad_id, form_not_allowed, long_block, long_id}

-- the status of each cause for which an element can't be put into a packet
abbrev pub put_status : NotPut → ℤ
put_status CutPacket = bad_field
put_status ZeroId = bad_id
put_status LongData = bad_field
put_status (NotAPacket cause) = cause_status cause
put_status OtherForm = unknown_form
put_status LongId = long_id
put_status OneByteOnly = form_not_allowed
put_status LongBlock = long_block
put_status (NoRoom needed) = short_buffer

-- the status of the first cause that applies
pub record IsFirstPutStatus (Applies : NotPut → Type 0) (status : ℤ) : Type 0 where
  pub cause : NotPut
  pub is_first : IsFirstNotPut Applies cause
  pub status_is : status ≡ put_status cause

-- the status of the first cause that applies to an element that is put into the packet in so many first bytes of the buffer
abbrev pub IsPutStatus : List ℕ → ℕ → Element → Option ExtensionsForm → ℤ → Type 0
IsPutStatus buf len element allowed status = IsFirstPutStatus (AppliesToPut buf len element allowed) status
