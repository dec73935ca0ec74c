use Rattle.std.proofs.Common.{◌+◌, ◌≤◌, length, arith}
use Rattle.rtp_ext.proofs.RewrittenLemmas.{length-added, few-added}
use Rattle.rtp_ext.proofs.rewriting.added_len.Goals as goal
use Rattle.rtp_ext.proofs.rewriting.added_len.Goals.{After-element_header_len}

few : (c : After-element_header_len) → (c.element_header_len.result + length c.in-Some.data.now ≤ 257)
few c = few-added c.args.form _ c.in-Some.data c.in-Some.is (c.element_header_len.ensures _ _) c.requires

pub overflow_add-result : goal.overflow_add-result
overflow_add-result c = omega (arith, few c)

pub returns-in-Some-clause-length : goal.returns-in-Some-clause-length
returns-in-Some-clause-length c = length-added c.args.form _ c.in-Some.data c.in-Some.is (c.element_header_len.ensures _ _)

pub returns-in-Some-clause-few : goal.returns-in-Some-clause-few
returns-in-Some-clause-few c = few c
