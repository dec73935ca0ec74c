use Rattle.rtp_c.specs.Datagrams.{IsWholeDatagramRead}
use Rattle.rtp_c.proofs.InTurnLemmas.{AreReadTo}
use Rattle.rtp_c.proofs.datagrams.rtpw_read_many.Given as goal

abbrev pub invariant-loop-datagram : goal.invariant-loop-datagram
invariant-loop-datagram l = AreReadTo (IsWholeDatagramRead l.map.kind l.buf) l.initial.datagram-items l.datagram-items l.datagram-index
