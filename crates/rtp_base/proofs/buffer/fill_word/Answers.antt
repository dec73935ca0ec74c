use Rattle.std.proofs.Common.{sym}
use Rattle.rtp_base.proofs.OverwritingLemmas.{overwritten-nil}
use Rattle.rtp_base.proofs.buffer.fill_word.Goals as goal

pub returns-in-0-clause-written : goal.returns-in-0-clause-written
returns-in-0-clause-written c = rw c.in-0.is (sym (overwritten-nil c.args.buf.now c.args.at))
