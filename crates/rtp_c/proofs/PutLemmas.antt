-- The statuses of an element that is put into a packet.
use Rattle.rtp_c.proofs.Common.{◌≡◌, ℤ, ap, ◌∙◌, w32, to_z, of_z, refl, sym, CutFixedPart, OtherVersion, CutSources, CutBlockHeader, CutBlock, NotPut, ok, put_status}
use Rattle.rtp_wire.specs.declared.packet.not_put.NotPut.TheVariants.{CutPacket, NotAPacket, ZeroId, LongData, OtherForm, LongId, OneByteOnly, LongBlock, NoRoom}
use Rattle.rtp_c.proofs.StatusLemmas.{ok≢cause}

-- no cause has the status of success
pub put_status≢ok : (cause : NotPut) → put_status cause ≡ ok → ⊥
put_status≢ok CutPacket same = cc
put_status≢ok (NotAPacket cause) same = ok≢cause cause (sym same)
put_status≢ok ZeroId same = cc
put_status≢ok LongData same = cc
put_status≢ok OtherForm same = cc
put_status≢ok LongId same = cc
put_status≢ok OneByteOnly same = cc
put_status≢ok LongBlock same = cc
put_status≢ok (NoRoom needed) same = cc

-- each fits the 32 bits of a status
pub put_status-fits : (cause : NotPut) → to_z w32 (of_z w32 (put_status cause)) ≡ put_status cause
put_status-fits CutPacket = refl
put_status-fits (NotAPacket CutFixedPart) = refl
put_status-fits (NotAPacket OtherVersion) = refl
put_status-fits (NotAPacket CutSources) = refl
put_status-fits (NotAPacket CutBlockHeader) = refl
put_status-fits (NotAPacket CutBlock) = refl
put_status-fits ZeroId = refl
put_status-fits LongData = refl
put_status-fits OtherForm = refl
put_status-fits LongId = refl
put_status-fits OneByteOnly = refl
put_status-fits LongBlock = refl
put_status-fits (NoRoom needed) = refl

-- the status that is returned
pub status_is : (result : ℤ) (cause : NotPut) → result ≡ put_status cause → to_z w32 (of_z w32 result) ≡ put_status cause
status_is result cause is = ap (λ (z : ℤ). to_z w32 (of_z w32 z)) is ∙ put_status-fits cause

-- it isn't that of success
pub status≢ok : (result : ℤ) (cause : NotPut) → result ≡ put_status cause → to_z w32 (of_z w32 result) ≡ ok → ⊥
status≢ok result cause is is_ok = put_status≢ok cause (sym (status_is result cause is) ∙ is_ok)
