-- The text of a frequency in hertz, such as a clock rate in SDP (RFC 8866, 6.6).
use Rattle.std.specs.Prelude.{◌≡◌, ℕ, ◌<◌, ◌^◌, ◌⊎◌, List, [], ◌++◌, length, codes}
use Rattle.std.specs.Char.{IsAsciiDigit}
use Rattle.std.specs.List.{All}
use Rattle.std.specs.Str.Parse.{digits_value}

-- an optional plus, followed by one or more decimal digits of a number from 1 to 2^32 - 1
pub record IsFrequencyText (text : List ℕ) (hertz : ℕ) : Type 0 where
  pub sign : List ℕ
  pub digits : List ℕ
  pub text_is : text ≡ sign ++ digits
  pub sign_is : (sign ≡ []) ⊎ (sign ≡ codes "+")
  pub digits_are : All IsAsciiDigit digits
  pub some : 0 < length digits
  pub number : hertz ≡ digits_value 10 digits
  pub positive : 0 < hertz
  pub fits : hertz < 2 ^ 32
