use Rattle.std.proofs.Common.{arith}
use Rattle.rtp_base.proofs.MediaTimeLemmas.{whole_ticks-le}
use Rattle.rtp_base.proofs.mtime.arithmetic.at_common.Goals as goal

pub returns-in_err-right-clause-in_order : goal.returns-in_err-right-clause-in_order
returns-in_err-right-clause-in_order c = whole_ticks-le c.args.left c.args.right _ (omega arith) (omega arith)

pub returns-clause-in_order : goal.returns-clause-in_order
returns-clause-in_order c = whole_ticks-le c.args.left c.args.right _ (omega arith) (omega arith)
