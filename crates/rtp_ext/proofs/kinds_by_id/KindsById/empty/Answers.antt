use Rattle.rtp_ext.proofs.Common.{refl}
use Rattle.rtp_ext.proofs.KindsByIdLemmas.{slots_of-replicate}
use Rattle.rtp_ext.proofs.kinds_by_id.KindsById.empty.Goals as goal

pub invariant_of-result : goal.invariant_of-result
invariant_of-result c = (refl, refl, refl, refl, refl)

pub returns : goal.returns
returns c = slots_of-replicate 255
