use Rattle.rtp_c.specs.Datagrams.{IsDatagramHeaderRead}
use Rattle.rtp_c.proofs.InTurnLemmas.{AreReadTo}
use Rattle.rtp_c.proofs.datagrams.rtpw_parse_many.Given as goal

abbrev pub invariant-loop-datagram : goal.invariant-loop-datagram
invariant-loop-datagram l = AreReadTo (IsDatagramHeaderRead l.map.kind l.buf) l.initial.datagram-items l.datagram-items l.datagram-index
