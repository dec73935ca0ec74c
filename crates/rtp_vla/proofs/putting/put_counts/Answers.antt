use Rattle.rtp_vla.proofs.Common.{sym, overwritten-nil}
use Rattle.rtp_vla.proofs.putting.put_counts.Goals as goal

pub returns-in-0 : goal.returns-in-0
returns-in-0 c = rw c.in-0.is (sym (overwritten-nil c.args.buf.now c.args.at))
