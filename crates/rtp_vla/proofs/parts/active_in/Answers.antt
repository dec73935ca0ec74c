use Rattle.rtp_vla.proofs.AllocationReadingLemmas.{ones-active_in}
use Rattle.rtp_vla.proofs.parts.active_in.Goals as goal

pub returns-clause-active : goal.returns-clause-active
returns-clause-active c = (ones-active_in c.args.mask c.requires).0

pub returns-clause-few : goal.returns-clause-few
returns-clause-few c = (ones-active_in c.args.mask c.requires).1
