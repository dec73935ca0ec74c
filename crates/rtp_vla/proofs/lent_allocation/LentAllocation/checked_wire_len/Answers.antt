use Rattle.rtp_vla.proofs.Common.{length, written_of}
use Rattle.rtp_vla.proofs.AllocationWriting.{some_found, none_found}
use Rattle.rtp_vla.proofs.lent_allocation.LentAllocation.checked_wire_len.Goals as goal

pub returns-clause-found : goal.returns-clause-found
returns-clause-found g c = some_found c.writable_len.result c.args.self.now (length (written_of c.args.self.now)) c.writable_len.ensures.fits

pub returns-clause-none : goal.returns-clause-none
returns-clause-none g c = none_found c.writable_len.result c.args.self.now c.writable_len.ensures.unfit
