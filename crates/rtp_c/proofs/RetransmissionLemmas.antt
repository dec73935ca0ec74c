-- The statuses of retransmissions that aren't made, and the ids of their elements.
use Rattle.rtp_c.proofs.Common.{◌≡◌, ℕ, List, Option, ℤ, w32, to_z, of_z, ap, sym, subst, ◌∙◌, Extension, AreRenamedIds, ids_in_bytes, CutFixedPart, OtherVersion, CutSources, CutBlockHeader, CutBlock, NotRetransmitted, ok, numbered_slots}
use Rattle.rtp_wire.specs.declared.packet.not_retransmitted.NotRetransmitted.TheVariants.{CutPacket, NotAPacket, PaddingTooLong, NoOriginalNumber, NewIdTooHigh, NoRoom}
use Rattle.rtp_c.specs.Retransmission.{RenameKinds, retransmission_status}
use Rattle.rtp_c.proofs.NumberedLemmas.{HasKinds-numbered}

status_is_no_ok : (cause : NotRetransmitted) → to_z w32 (of_z w32 (retransmission_status cause)) ≡ ok → ⊥
status_is_no_ok CutPacket same = cc
status_is_no_ok (NotAPacket CutFixedPart) same = cc
status_is_no_ok (NotAPacket OtherVersion) same = cc
status_is_no_ok (NotAPacket CutSources) same = cc
status_is_no_ok (NotAPacket CutBlockHeader) same = cc
status_is_no_ok (NotAPacket CutBlock) same = cc
status_is_no_ok PaddingTooLong same = cc
status_is_no_ok NoOriginalNumber same = cc
status_is_no_ok NewIdTooHigh same = cc
status_is_no_ok NoRoom same = cc

-- the status of a cause is not `OK`
pub refused_not_ok : (cause : NotRetransmitted) (status : ℤ) → status ≡ retransmission_status cause → to_z w32 (of_z w32 status) ≡ ok → ⊥
refused_not_ok cause status is same = status_is_no_ok cause (ap (λ (z : ℤ). to_z w32 (of_z w32 z)) (sym is) ∙ same)

-- the bytes of renamed ids
pub RenameKinds-bytes : (from to : Extension) (numbers bytes : List ℕ) (ids : List (Option ℕ)) → AreRenamedIds (numbered_slots numbers) from to ids
    → ids_in_bytes bytes ≡ ids → RenameKinds from to numbers bytes
RenameKinds-bytes from to numbers bytes ids are is = record {
  slots = numbered_slots numbers;
  has_kinds = HasKinds-numbered numbers;
  renamed = subst (AreRenamedIds (numbered_slots numbers) from to) (sym is) are;
}
