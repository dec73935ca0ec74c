use Rattle.std.proofs.Common.{arith}
use Rattle.rtp_c.proofs.InTurnLemmas.{AreReceivedTo-next}
use Rattle.rtp_c.proofs.arrivals.rtpw_receive_many.Goals as goal

pub loop-arrival-preserved : goal.loop-arrival-preserved
loop-arrival-preserved c =
    let at = c.loop-arrival in
    AreReceivedTo-next c.args.receivers.now c.args.arrivals.now at.arrival-items at.receivers at.arrival-index _ c.receive_arrival.new.arrival c.receive_arrival.new.receivers at.invariant
    (omega (arith, c.loop-arrival-test.true, at.auto.arrival-items)) c.receive_arrival.ensures
