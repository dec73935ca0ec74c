use Rattle.std.proofs.Common.{sym, ◌∙◌}
use Rattle.rtp_ext.proofs.ElementLemmas.{without_padding-none, without_padding-other, without_padding-zero}
use Rattle.rtp_ext.proofs.elements.skip_zeros.Goals as goal

pub returns-then-byte-ne0 : goal.returns-then-byte-ne0
returns-then-byte-ne0 c =
    sym (c.loop-byte.invariant ∙ without_padding-other _ _ _ c.in-Some.ensures.cases c.if-byte-ne0.true)

pub loop-byte-preserved : goal.loop-byte-preserved
loop-byte-preserved c =
    c.loop-byte.invariant ∙ without_padding-zero _ _ c.in-Some.ensures.cases c.if-byte-ne0.false

pub returns : goal.returns
returns c = sym (c.loop-byte.invariant ∙ without_padding-none _ c.in_default.ensures.cases)
