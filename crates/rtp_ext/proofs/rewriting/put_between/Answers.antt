use Rattle.rtp_ext.proofs.Common.{◌+◌, arith, elements_bytes}
use Rattle.rtp_ext.specs.ElementsInARow.{elements_added}
use Rattle.rtp_ext.proofs.BetweenLemmas.{between_is}
use Rattle.rtp_ext.proofs.rewriting.put_between.Goals as goal

pub returns-clause-row : goal.returns-clause-row
returns-clause-row c =
    between_is c.args.body.now (elements_bytes c.args.form (elements_added c.args.comes)) c.args.front c.args.at c.args.count
    (c.args.front + c.added_len.result) (omega (arith, c.added_len.ensures.length)) c.requires.order c.requires.within c.requires.room c.copy_within.ensures.after c.put_added.ensures
