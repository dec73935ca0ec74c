use Rattle.rtp_wire.proofs.Common.{ap, ◌∙◌, parts_at}
use Rattle.rtp_wire.proofs.PacketLemmas.{one_packet}
use Rattle.rtp_wire.proofs.ChangedPackets.{HasLayout-read}
use Rattle.rtp_wire.proofs.packet.rtp_packet_mut.RtpPacketMut.parse.Goals as goal

pub returns-in_err-packet-clause-only : goal.returns-in_err-packet-clause-only
returns-in_err-packet-clause-only c parts is = absurd (c.in_err-packet.ensures.only parts is)

pub new-requires : goal.new-requires
new-requires c = HasLayout-read c.in_ok-packet.packet c.args.datagram.now c.in_ok-packet.ensures.bytes c.in_ok-packet.ensures.found

pub returns-clause-only : goal.returns-clause-only
returns-clause-only c parts is = ap parts_at c.new.ensures.same_bytes ∙ one_packet c.args.datagram.now parts is
