use Rattle.rtp_route.proofs.RepeatedLemmas.{repeats}
use Rattle.rtp_route.proofs.retransmission.repeats_the_packet.Goals as goal

pub returns : goal.returns
returns c old new got fields number stream ids news allowed fields_again again = repeats old new got fields number stream ids news allowed fields_again again
