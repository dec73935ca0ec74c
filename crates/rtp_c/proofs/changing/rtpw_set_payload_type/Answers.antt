use Rattle.rtp_c.proofs.Common.{rules}
use Rattle.rtp_c.proofs.ChangeLemmas.{SetsParts-passed}
use Rattle.rtp_c.proofs.changing.rtpw_set_payload_type.Goals as goal

pub returns-clause-set : goal.returns-clause-set
returns-clause-set c low = rw c.from.ensures at (SetsParts-passed {start = 1} {end = 2} (search rules) (search rules) c.set.ensures)
