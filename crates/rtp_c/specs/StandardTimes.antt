-- The data of an absolute send time, as C gives it.
use Rattle.std.specs.Prelude.{◌≡◌, ℕ, ◌^◌, ◌<◌, List}
use Rattle.rtp_values.specs.Spelling.{bytes_of_number}

-- the data of an absolute send time, in units of 2^-18 seconds, which 24 bits can have
pub record AreSendTimeData (units : ℕ) (bytes : List ℕ) : Type 0 where
  pub fits : units < 2 ^ 24
  pub bytes_are : bytes ≡ bytes_of_number 3 units
