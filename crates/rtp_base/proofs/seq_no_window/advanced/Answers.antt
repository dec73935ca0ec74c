use Rattle.std.proofs.Common.{◌≤◌, arith}
use Rattle.rtp_base.proofs.BitmapLemmas.{one-first, one-others, moved-first, moved-between, moved-before}
use Rattle.rtp_base.proofs.seq_no_window.advanced.Goals as goal

pub returns-then-by-lt-SIZE-clause-first : goal.returns-then-by-lt-SIZE-clause-first
returns-then-by-lt-SIZE-clause-first c = moved-first c.args.bits c.args.by

pub returns-then-by-lt-SIZE-clause-between : goal.returns-then-by-lt-SIZE-clause-between
returns-then-by-lt-SIZE-clause-between c = moved-between c.args.bits c.args.by

pub returns-then-by-lt-SIZE-clause-before : goal.returns-then-by-lt-SIZE-clause-before
returns-then-by-lt-SIZE-clause-before c k = moved-before c.args.bits c.args.by k c.requires

pub returns-clause-first : goal.returns-clause-first
returns-clause-first c = one-first

pub returns-clause-between : goal.returns-clause-between
returns-clause-between c k some before = one-others k some

pub returns-then-by-eq1-clause-first : goal.returns-then-by-eq1-clause-first
returns-then-by-eq1-clause-first c = moved-first c.args.bits 1

pub returns-then-by-eq1-clause-before : goal.returns-then-by-eq1-clause-before
returns-then-by-eq1-clause-before c k after below =
    let next : 1 ≤ k = omega (arith, c.if-by-eq1.true, after) in
    rw c.if-by-eq1.true (moved-before c.args.bits 1 k (omega arith) next below)
