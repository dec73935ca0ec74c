use Rattle.std.proofs.Common.{arith}
use Rattle.rtp_base.proofs.RingLemmas.{restored-shown, restored-same}
use Rattle.rtp_base.proofs.ring.ring_restore.Goals as goal

pub returns-clause-recorded : goal.returns-clause-recorded
returns-clause-recorded c k =
    let set = rw c.get.ensures at c.set.ensures in
    restored-shown c.args.words.now c.set.new.words c.args.greatest k (omega arith) set

pub returns-clause-restored : goal.returns-clause-restored
returns-clause-restored c first =
    let set = rw c.get.ensures at c.set.ensures in
    let same = restored-same c.args.words.now c.set.new.words c.args.greatest (omega arith)
    (λ k. restored-shown c.args.words.now c.set.new.words c.args.greatest k (omega arith) set) first in
    cc
