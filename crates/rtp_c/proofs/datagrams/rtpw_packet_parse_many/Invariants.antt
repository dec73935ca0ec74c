use Rattle.rtp_c.specs.Datagrams.{IsDatagramRead}
use Rattle.rtp_c.proofs.InTurnLemmas.{AreReadTo}
use Rattle.rtp_c.proofs.datagrams.rtpw_packet_parse_many.Given as goal

abbrev pub invariant-loop-datagram : goal.invariant-loop-datagram
invariant-loop-datagram l = AreReadTo (IsDatagramRead l.buf) l.initial.datagram-items l.datagram-items l.datagram-index
