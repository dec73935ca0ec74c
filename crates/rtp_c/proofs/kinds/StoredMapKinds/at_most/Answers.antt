use Rattle.rtp_c.proofs.Common.{arith, last_end}
use Rattle.rtp_c.proofs.NumberedLemmas.{numbered-most}
use Rattle.rtp_c.proofs.WalkLemmas.{last_end-low, last_end-within}
use Rattle.rtp_c.proofs.kinds.StoredMapKinds.at_most.Goals as goal

pub returns-then-end-le-LOW_SLOTS-clause-most : goal.returns-then-end-le-LOW_SLOTS-clause-most
returns-then-end-le-LOW_SLOTS-clause-most c =
    omega (
      arith,
      numbered-most c.args.self.now.kind (last_end c.args.end) 0 c.requires.all,
      last_end-low c.args.end c.if-end-le-LOW_SLOTS.true,
    )

pub returns-else-end-le-LOW_SLOTS-clause-most : goal.returns-else-end-le-LOW_SLOTS-clause-most
returns-else-end-le-LOW_SLOTS-clause-most c =
    omega (
      arith,
      numbered-most c.args.self.now.kind (last_end c.args.end) 0 c.requires.all,
      (last_end-within c.args.end c.requires.within).1,
    )
