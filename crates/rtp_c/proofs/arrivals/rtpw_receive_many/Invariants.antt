use Rattle.rtp_c.proofs.InTurnLemmas.{AreReceivedTo}
use Rattle.rtp_c.proofs.arrivals.rtpw_receive_many.Given as goal

abbrev pub invariant-loop-arrival : goal.invariant-loop-arrival
invariant-loop-arrival l = AreReceivedTo l.initial.receivers l.initial.arrival-items l.arrival-items l.receivers l.arrival-index
