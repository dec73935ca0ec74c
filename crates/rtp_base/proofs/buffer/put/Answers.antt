use Rattle.rtp_base.proofs.OverwritingLemmas.{overwritten-copied}
use Rattle.rtp_base.proofs.buffer.put.Goals as goal

pub returns-clause-written : goal.returns-clause-written
returns-clause-written c = rw c.copy_from_slice.ensures.after (overwritten-copied c.args.buf.now c.args.bytes.now c.args.at)
