-- The transmission time offset (RFC 5450, 3), as C gives it.
use Rattle.std.specs.Prelude.{◌≡◌, ℕ, ℤ, pos, negsuc, ◌≤ℤ◌, List}
use Rattle.rtp_values.specs.StandardNumbers.{offset_bytes}

-- the data of an offset that 24 signed bits can have
pub record AreOffsetData (offset : ℤ) (bytes : List ℕ) : Type 0 where
  pub low : negsuc 8388607 ≤ℤ offset
  pub high : offset ≤ℤ pos 8388607
  pub bytes_are : bytes ≡ offset_bytes offset
