use Rattle.rtp_c.proofs.Common.{arith}
use Rattle.rtp_c.specs.Datagrams.{IsWholeDatagramRead}
use Rattle.rtp_c.proofs.InTurnLemmas.{AreReadTo-next}
use Rattle.rtp_c.proofs.datagrams.rtpw_read_many.Goals as goal

pub loop-datagram-preserved : goal.loop-datagram-preserved
loop-datagram-preserved c =
    let at = c.loop-datagram in
    AreReadTo-next (IsWholeDatagramRead c.args.map.now.kind c.args.buf.now) c.args.datagrams.now at.datagram-items at.datagram-index _ c.read_whole_datagram.new.datagram at.invariant
    (omega (arith, c.loop-datagram-test.true, at.auto.datagram-items)) c.read_whole_datagram.ensures
