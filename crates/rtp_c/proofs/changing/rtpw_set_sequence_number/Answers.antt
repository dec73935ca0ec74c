use Rattle.rtp_c.proofs.Common.{rules}
use Rattle.rtp_c.proofs.ChangeLemmas.{SetsParts-passed}
use Rattle.rtp_c.proofs.changing.rtpw_set_sequence_number.Goals as goal

pub returns : goal.returns
returns c = SetsParts-passed (search rules) (search rules) c.set.ensures
