-- Numbers of header extensions as their standards have them.
use Rattle.std.specs.Prelude.{nat_lt, if◌then◌else◌, ℕ, ℤ, pos, negsuc, ◌-ℤ◌, ◌-◌, List}
use Rattle.rtp_values.specs.Spelling.{bytes_of_number}

-- a number of 24 bits in two's complement, and back
abbrev pub signed_24 : ℕ → ℤ
signed_24 n = if nat_lt n 8388608 then pos n else pos n -ℤ pos 16777216

abbrev pub unsigned_24 : ℤ → ℕ
unsigned_24 (pos n) = n
unsigned_24 (negsuc n) = 16777215 - n

-- the data of a transmission time offset: a 24-bit signed number (RFC 5450, 3)
abbrev pub offset_bytes : ℤ → List ℕ
offset_bytes offset = bytes_of_number 3 (unsigned_24 offset)
