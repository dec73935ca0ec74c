use Rattle.rtp_ext.proofs.Common.{arith, slots_of}
use Rattle.rtp_ext.proofs.ListingLemmas.{length-items_from}
use Rattle.rtp_ext.proofs.TableLemmas.{slots-long}
use Rattle.rtp_ext.proofs.kinds_by_id.KindsById.len.Goals as goal

pub returns-clause-few : goal.returns-clause-few
returns-clause-few c =
    let kinds = c.self.inside.kinds in
    omega (arith, c.from.ensures, c.self.invariant.3, length-items_from 0 (slots_of kinds), slots-long kinds c.self.invariant.0)
