use Rattle.std.proofs.Common.{rules}
use Rattle.rtp_vla.specs.AllocationEqual.{is_same_allocation}
use Rattle.rtp_vla.proofs.comparing.VideoLayersAllocationPartialEq.eq.Goals as goal

pub returns-clause-same : goal.returns-clause-same
returns-clause-same c = is_same_allocation c.eq.result c.args.self.now c.args.other.now (search rules)
