use Rattle.rtp_vla.proofs.Common.{subst, Writable}
use Rattle.rtp_vla.proofs.AllocationWriting.{Writable-from}
use Rattle.rtp_vla.proofs.lent_allocation.MeasuredAllocation.wire_len.Goals as goal

pub returns-clause-writable : goal.returns-clause-writable
returns-clause-writable g c = subst Writable c.self.view_is (Writable-from c.self.inside.allocation c.self.invariant.0)
