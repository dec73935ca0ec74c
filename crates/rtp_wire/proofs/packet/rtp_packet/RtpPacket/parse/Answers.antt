use Rattle.rtp_wire.proofs.packet.rtp_packet.RtpPacket.parse.Goals as goal

pub returns-in_err-packet-clause-only : goal.returns-in_err-packet-clause-only
returns-in_err-packet-clause-only c parts is = absurd (c.in_err-packet.ensures.only parts is)

pub returns-clause-only : goal.returns-clause-only
returns-clause-only c parts is = c.in_ok-packet.ensures.only parts is
