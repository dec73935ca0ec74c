-- What C is told of each of several datagrams in a buffer.
use Rattle.std.specs.Prelude.{◌≡◌, ℕ, ◌+◌, ◌≤◌, ◌⊎◌, List, length}
use Rattle.rtp_wire.specs.Rtcp.{IsRtcp}
use Rattle.rtp_c.specs.declared.datagrams.Datagram.{Datagram}
use Rattle.rtp_c.specs.declared.datagrams.DatagramHeader.{DatagramHeader}
use Rattle.rtp_c.specs.declared.datagrams.WholeDatagram.{WholeDatagram}
use Rattle.rtp_c.specs.PacketView.{slice_at, IsPacketRead}
use Rattle.rtp_c.specs.HeaderView.{IsHeaderRead}
use Rattle.rtp_c.specs.WholePacket.{IsWholeRead}
use Rattle.rtp_c.specs.Status.{bad_field}

-- the bytes at this place, of this length, are bytes of the buffer
abbrev pub IsWithin : List ℕ → ℕ → ℕ → Type 0
IsWithin buf at len = at + len ≤ length buf

-- 1 where these bytes are RTCP, and else 0
abbrev pub IsRtcpNumber : List ℕ → ℕ → Type 0
IsRtcpNumber bytes number = ((number ≡ 1) × IsRtcp bytes) ⊎ ((number ≡ 0) × (IsRtcp bytes → ⊥))

-- what is told of a datagram in the buffer: of its packet, and whether it is RTCP; of one that isn't within the buffer only that
pub record IsDatagramRead (buf : List ℕ) (old new : Datagram) : Type 0 where
  pub at_is : new.at ≡ old.at
  pub len_is : new.len ≡ old.len
  pub within : IsWithin buf old.at old.len → let bytes = slice_at buf old.at old.len in
      IsPacketRead bytes new.status old.packet new.packet × IsRtcpNumber bytes new.is_rtcp
  pub outside : (IsWithin buf old.at old.len → ⊥) → (new.status ≡ bad_field) × (new.is_rtcp ≡ 0) × (new.packet ≡ old.packet)

-- the same of its header, under the map of these numbers
pub record IsDatagramHeaderRead (numbers buf : List ℕ) (old new : DatagramHeader) : Type 0 where
  pub at_is : new.at ≡ old.at
  pub len_is : new.len ≡ old.len
  pub within : IsWithin buf old.at old.len → let bytes = slice_at buf old.at old.len in
      IsHeaderRead numbers bytes new.status old.header new.header × IsRtcpNumber bytes new.is_rtcp
  pub outside : (IsWithin buf old.at old.len → ⊥) → (new.status ≡ bad_field) × (new.is_rtcp ≡ 0) × (new.header ≡ old.header)

-- the same of the whole packet
pub record IsWholeDatagramRead (numbers buf : List ℕ) (old new : WholeDatagram) : Type 0 where
  pub at_is : new.at ≡ old.at
  pub len_is : new.len ≡ old.len
  pub within : IsWithin buf old.at old.len → IsWholeRead numbers (slice_at buf old.at old.len) new.status old.packet new.packet
  pub outside : (IsWithin buf old.at old.len → ⊥) → (new.status ≡ bad_field) × (new.packet ≡ old.packet)
