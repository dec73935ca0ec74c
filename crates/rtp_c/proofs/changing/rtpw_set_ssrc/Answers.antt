use Rattle.rtp_c.proofs.Common.{rules}
use Rattle.rtp_c.proofs.ChangeLemmas.{SetsParts-passed}
use Rattle.rtp_c.proofs.changing.rtpw_set_ssrc.Goals as goal

pub returns : goal.returns
returns c = rw c.from.ensures at (SetsParts-passed {start = 8} {end = 12} (search rules) (search rules) c.set.ensures)
