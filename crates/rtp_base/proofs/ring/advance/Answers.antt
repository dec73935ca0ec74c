use Rattle.std.proofs.Common.{arith}
use Rattle.rtp_base.proofs.RingLemmas.{advanced-first, advanced-between, advanced-before}
use Rattle.rtp_base.proofs.ring.advance.Goals as goal

pub returns-clause-first : goal.returns-clause-first
returns-clause-first c = advanced-first c.clear_between.new.words c.set.new.words c.args.number (omega arith) (omega arith) c.set.ensures

pub returns-clause-between : goal.returns-clause-between
returns-clause-between c k some before below =
    advanced-between c.clear_between.new.words c.set.new.words c.args.greatest c.args.number k (omega arith) c.set.ensures c.clear_between.ensures.cleared some before (omega arith)

pub returns-clause-before : goal.returns-clause-before
returns-clause-before c k =
    advanced-before c.args.words.now c.clear_between.new.words c.set.new.words c.args.greatest c.args.number k c.requires.above (omega arith) (omega arith)
    c.set.ensures c.clear_between.ensures.others
