-- The original sequence number (OSN) that the payload of a retransmission packet begins with, in two bytes (RFC 4588, 4).
use Rattle.std.specs.Prelude.{◌≡◌, ℕ, ◌≤◌, List, length, slice_range}
use Rattle.std.specs.Int.{w16, from_be_bytes}

-- the payload begins with this original sequence number
pub record HasOriginalNumber (payload : List ℕ) (number : ℕ) : Type 0 where
  pub long : 2 ≤ length payload
  pub number_is : number ≡ from_be_bytes w16 (slice_range payload 0 2)
