-- The parts of a packet as callers see them.
use Rattle.rtp_wire.specs.declared.packet.rtp_packet.RtpPacket.{RtpPacket}
use Rattle.std.specs.Prelude.{ℕ, List}
use Rattle.std.specs.Borrow.{MutBor}
use Rattle.rtp_wire.specs.declared.packet.rtp_packet_mut.RtpPacketMut.{RtpPacketMut}
use Rattle.rtp_wire.specs.Packet.{PacketParts}
use Rattle.rtp_wire.specs.PartsAt.{parts_at}

-- the parts of an `RtpPacket`: what stands in the datagram that it was read from
abbrev pub parts_of : RtpPacket → PacketParts
parts_of packet = parts_at packet.datagram.now

-- the bytes of the datagram that an `RtpPacket` was read from
abbrev pub datagram_of : RtpPacket → List ℕ
datagram_of packet = packet.datagram.now

-- the buffer of a packet that can be changed
abbrev pub buffer_of : RtpPacketMut → MutBor (List ℕ)
buffer_of packet = packet.datagram

-- the parts of an `RtpPacketMut`: what stands in its buffer
abbrev pub parts_in : RtpPacketMut → PacketParts
parts_in packet = parts_at packet.datagram.now
