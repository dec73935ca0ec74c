use Rattle.std.proofs.Common.{sym, ◌∙◌}
use Rattle.rtp_ext.proofs.ElementLemmas.{without_padding-word}
use Rattle.rtp_ext.proofs.elements.skip_zero_words.Goals as goal

pub loop-word-preserved : goal.loop-word-preserved
loop-word-preserved c =
    sym (without_padding-word c.loop-word.rest.now _ _ c.in-Some.ensures.cases (sym c.from_ne_bytes.ensures ∙ c.if-from_ne_bytes-ne0.false))
    ∙ c.loop-word.invariant
