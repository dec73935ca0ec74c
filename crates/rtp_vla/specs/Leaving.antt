-- Bytes that are put into a buffer step by step: what the functions that write promise each other.
use Rattle.std.specs.Prelude.{◌≡◌, ℕ, ◌+◌, ◌≤◌, List, length}
use Rattle.rtp_base.specs.Overwriting.{overwritten}

-- what is left to put at this offset makes of the buffer what all the bytes make of it at the first offset
pub record Leaves (buf : List ℕ) (at : ℕ) (left : List ℕ) (first : List ℕ) (from : ℕ) (all : List ℕ) : Type 0 where
  pub makes : overwritten buf at left ≡ overwritten first from all
  pub ends : at + length left ≡ from + length all
  pub room : at + length left ≤ length buf
