-- The statuses are different numbers, and stay when they are passed on.
use Rattle.rtp_c.proofs.Common.{◌≡◌, ℤ, w32, to_z, of_z, FitsSigned, to_z-of_z, sym, subst, CutFixedPart, OtherVersion, CutSources, CutBlockHeader, CutBlock, ok, none, bad_field, short_buffer, cause_status}
use Rattle.rtp_wire.specs.declared.packet.not_a_packet.NotAPacket.{NotAPacket}
use Rattle.rtp_c.specs.Status.{long_block, long_id, rtcp}

pub none≢ok : none ≡ ok → ⊥
none≢ok same = cc

pub bad_field≢ok : bad_field ≡ ok → ⊥
bad_field≢ok same = cc

pub short_buffer≢ok : short_buffer ≡ ok → ⊥
short_buffer≢ok same = cc

pub short_buffer≢bad_field : short_buffer ≡ bad_field → ⊥
short_buffer≢bad_field same = cc

pub none≢bad_field : none ≡ bad_field → ⊥
none≢bad_field same = cc

pub long_block≢ok : long_block ≡ ok → ⊥
long_block≢ok same = cc

pub long_id≢ok : long_id ≡ ok → ⊥
long_id≢ok same = cc

pub ok≢cause : (cause : NotAPacket) → ok ≡ cause_status cause → ⊥
ok≢cause CutFixedPart same = cc
ok≢cause OtherVersion same = cc
ok≢cause CutSources same = cc
ok≢cause CutBlockHeader same = cc
ok≢cause CutBlock same = cc

pub rtcp≢ok : rtcp ≡ ok → ⊥
rtcp≢ok same = cc

pub rtcp≢cause : (cause : NotAPacket) → rtcp ≡ cause_status cause → ⊥
rtcp≢cause CutFixedPart same = cc
rtcp≢cause OtherVersion same = cc
rtcp≢cause CutSources same = cc
rtcp≢cause CutBlockHeader same = cc
rtcp≢cause CutBlock same = cc

-- what holds of a status holds of it as it is passed on
pub passed_on : (status : ℤ) → FitsSigned w32 status → (Holds : ℤ → Type 0) → Holds status → Holds (to_z w32 (of_z w32 status))
passed_on status fits Holds holds = subst Holds (sym (to_z-of_z w32 status fits)) holds
