use Rattle.rtp_ext.proofs.Common.{sym, overwritten-nil}
use Rattle.rtp_ext.proofs.rewriting.put_added.Goals as goal

pub returns-in_default : goal.returns-in_default
returns-in_default c = rw c.in_default.is (sym (overwritten-nil c.args.body.now c.args.at))
