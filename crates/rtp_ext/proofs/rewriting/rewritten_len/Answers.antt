use Rattle.rtp_ext.proofs.Common.{arith, IsWritable}
use Rattle.rtp_ext.specs.ElementsInARow.{elements_added}
use Rattle.rtp_ext.proofs.RewrittenLemmas.{length-rewritten, rewritten-each, rewritten-stays, added-each}
use Rattle.rtp_ext.proofs.rewriting.rewritten_len.Goals as goal

pub returns-in_default-clause-none : goal.returns-in_default-clause-none
returns-in_default-clause-none c = λ elements are all.
    c.in_default.ensures.none elements are (rewritten-stays (IsWritable c.args.new_form) c.args.goes (elements_added c.args.comes) elements all)

pub returns-clause-length : goal.returns-clause-length
returns-clause-length c = λ elements are.
    omega (arith, length-rewritten c.args.new_form c.args.goes (elements_added c.args.comes) elements, c.in-Some.ensures.length elements are, c.added_len.ensures.length)

pub returns-clause-carried : goal.returns-clause-carried
returns-clause-carried c = λ elements are.
    rewritten-each (IsWritable c.args.new_form) c.args.goes (elements_added c.args.comes) elements (c.in-Some.ensures.carried elements are) (added-each c.args.new_form c.args.comes c.requires.writable)
