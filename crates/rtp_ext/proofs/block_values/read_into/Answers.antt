use Rattle.rtp_ext.proofs.block_values.read_into.Goals as goal

pub returns-then-are_too_few-clause-only : goal.returns-then-are_too_few-clause-only
returns-then-are_too_few-clause-only g c a means = absurd (c.are_too_few.ensures c.if-are_too_few.true a means)
