-- The bytes that a header is read from: what the functions of `header_bytes` and `printing` promise each other.
use Rattle.std.specs.Prelude.{◌≡◌, ℕ, ◌≤◌, List, ◌++◌, length}
use Rattle.rtp_ext.specs.declared.map.ExtensionMap.{ExtensionMap}
use Rattle.rtp_wire.specs.declared.header.rtp_header.RtpHeader.{RtpHeader}
use Rattle.rtp_wire.specs.Header.{IsWire}

-- these bytes are at the front of the datagram, and a header that it begins with is within them
pub record HoldsHeader (datagram front : List ℕ) : Type 0 where
  pub rest : List ℕ
  pub in_order : datagram ≡ front ++ rest
  pub within : (exts : ExtensionMap) (header : RtpHeader) → IsWire exts datagram header → header.header_len ≤ length front
