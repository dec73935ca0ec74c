-- A packet at the front of a buffer that it may grow in (RFC 3550, 5.1).
use Rattle.std.specs.Prelude.{◌≡◌, ℕ, ◌<◌, ◌≤◌, List, length, take, drop}
use Rattle.std.specs.Borrow.{MutBor}
use Rattle.rtp_wire.specs.declared.packet.rtp_packet_buf.RtpPacketBuf.{RtpPacketBuf}
use Rattle.rtp_wire.specs.declared.packet.not_in_buffer.NotInBuffer.{NotInBuffer}
use Rattle.rtp_wire.specs.declared.packet.not_in_buffer.NotInBuffer.TheVariants.{CutPacket, NotAPacket}
use Rattle.rtp_wire.specs.NotAPacket.{IsFirstCause}
use Rattle.rtp_wire.specs.Packet.{PacketParts}
use Rattle.rtp_wire.specs.PartsAt.{parts_at}

-- the whole buffer
abbrev pub whole_of : RtpPacketBuf → MutBor (List ℕ)
whole_of packet = packet.buf

-- how many of its first bytes are the packet
abbrev pub len_of : RtpPacketBuf → ℕ
len_of packet = packet.len

-- these bytes
abbrev pub bytes_of : RtpPacketBuf → List ℕ
bytes_of packet = take packet.len packet.buf.now

-- what they say
abbrev pub parts_within : RtpPacketBuf → PacketParts
parts_within packet = parts_at (take packet.len packet.buf.now)

-- the cause for which a buffer doesn't begin with a packet of so many bytes
abbrev pub IsNotFront : List ℕ → ℕ → NotInBuffer → Type 0
IsNotFront buf len CutPacket = length buf < len
IsNotFront buf len (NotAPacket cause) = (len ≤ length buf) × IsFirstCause (take len buf) cause

-- the packet stays as it was, and so do all bytes of the buffer
pub record StaysWhole (old new : RtpPacketBuf) : Type 0 where
  pub len_is : len_of new ≡ len_of old
  pub bytes_are : (whole_of new).now ≡ (whole_of old).now

-- the packet keeps its length, and the bytes of the buffer behind it stay
pub record KeepsLength (old new : RtpPacketBuf) : Type 0 where
  pub len_is : len_of new ≡ len_of old
  pub behind_is : drop (len_of old) (whole_of new).now ≡ drop (len_of old) (whole_of old).now
