use Rattle.rtp_c.proofs.WrittenHeaderLemmas.{WritesHeader-bad}
use Rattle.rtp_c.proofs.writing_values.write_without_block.Goals as goal

pub returns-in_default : goal.returns-in_default
returns-in_default c = WritesHeader-bad (λ h is. c.in_default.ensures.none h.ext_vals is.values)
