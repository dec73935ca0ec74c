-- Which datagrams are RTCP on a port that carries RTP too (RFC 5761, 4; RFC 3550, 6.4.1).
-- The packet type of RTCP is the second byte, which in RTP is M and the payload type; the types 192 to 223 are RTCP's, so
-- a stream on such a port has no payload type of 64 to 95.
use Rattle.std.specs.Prelude.{◌≡◌, ℕ, ◌/◌, ◌≤◌, List, length, slice_index}

-- version 2 in the top two bits of the first byte, and one of these packet types in the second
pub record IsRtcp (bytes : List ℕ) : Type 0 where
  pub two : 2 ≤ length bytes
  pub version : slice_index bytes 0 / 64 ≡ 2
  pub least : 192 ≤ slice_index bytes 1
  pub greatest : slice_index bytes 1 ≤ 223
