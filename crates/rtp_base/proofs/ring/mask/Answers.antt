use Rattle.rtp_base.proofs.MaskLemmas.{mask-inside, mask-before, mask-after}
use Rattle.rtp_base.proofs.ring.mask.Goals as goal

pub returns-clause-inside : goal.returns-clause-inside
returns-clause-inside c k = mask-inside c.args.from c.args.to k c.requires.within

pub returns-clause-before : goal.returns-clause-before
returns-clause-before c k = mask-before c.args.from c.args.to k c.requires.some c.requires.within

pub returns-clause-after : goal.returns-clause-after
returns-clause-after c k = mask-after c.args.from c.args.to k c.requires.within
