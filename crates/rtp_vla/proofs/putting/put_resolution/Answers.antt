use Rattle.rtp_vla.proofs.Common.{sym, overwritten-nil}
use Rattle.rtp_vla.proofs.putting.put_resolution.Goals as goal

pub returns-in_default-clause-written : goal.returns-in_default-clause-written
returns-in_default-clause-written c = rw c.in_default.is (sym (overwritten-nil c.args.buf.now c.args.at))
