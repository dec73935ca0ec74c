use Rattle.rtp_c.proofs.Common.{arith, IsDatagramRead}
use Rattle.rtp_c.proofs.InTurnLemmas.{AreReadTo-next}
use Rattle.rtp_c.proofs.datagrams.rtpw_packet_parse_many.Goals as goal

pub loop-datagram-preserved : goal.loop-datagram-preserved
loop-datagram-preserved c =
    let at = c.loop-datagram in
    AreReadTo-next (IsDatagramRead c.args.buf.now) c.args.datagrams.now at.datagram-items at.datagram-index _ c.read_datagram.new.datagram at.invariant
    (omega (arith, c.loop-datagram-test.true, at.auto.datagram-items)) c.read_datagram.ensures
