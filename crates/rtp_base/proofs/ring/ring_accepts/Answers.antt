use Rattle.std.proofs.Common.{arith}
use Rattle.rtp_base.proofs.RingLemmas.{accepts-low}
use Rattle.rtp_base.proofs.ring.ring_accepts.Goals as goal

pub returns-else-number-greatest-clause-accepts : goal.returns-else-number-greatest-clause-accepts
returns-else-number-greatest-clause-accepts c taken =
    let is = rw (c.get-greatest.ensures, c.get-number.ensures) at c.is_new.ensures in
    accepts-low c.args.words.now c.args.greatest taken c.args.seq c.is_new.result (omega arith) is
