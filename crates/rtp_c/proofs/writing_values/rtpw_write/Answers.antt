use Rattle.rtp_c.proofs.WrittenHeaderLemmas.{WritesHeader-bad, WritesHeader-passed}
use Rattle.rtp_c.proofs.writing_values.rtpw_write.Goals as goal

pub returns-in_default : goal.returns-in_default
returns-in_default c = WritesHeader-bad (λ h is. c.in_default.ensures.none h.ext_vals is.values)

pub returns : goal.returns
returns c = WritesHeader-passed c.write_with_block.ensures
