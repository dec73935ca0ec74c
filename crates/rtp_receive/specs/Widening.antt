-- The extended number of 64 bits by the low bits that the wire carries, from a previous extended number (RFC 3711, 3.3.1 and appendix A).
use Rattle.std.specs.Prelude.{◌≡◌, ℕ, ◌-◌, ◌/◌, ◌%◌, ◌^◌, ◌<◌, ◌⊎◌, min, max, Option, Some, None}

-- how far apart two numbers are, modulo 2^64
abbrev pub distance : ℕ → ℕ → ℕ
distance a b = min (max a b - min a b) (2 ^ 64 - (max a b - min a b))

-- the number ends in the low bits, and of all that do it is the nearest to the previous one: less than half of the low bits' number space away, or just half of it and with the rollover count of the previous one
pub record IsNearest (bits previous low number : ℕ) : Type 0 where
  pub fits : number < 2 ^ 64
  pub ends : number % 2 ^ bits ≡ low % 2 ^ bits
  pub near : (distance previous number < 2 ^ (bits - 1)) ⊎ ((distance previous number ≡ 2 ^ (bits - 1)) × (number / 2 ^ bits ≡ previous / 2 ^ bits))

-- the extended number: with no previous number it is the low bits alone
abbrev pub Extends : ℕ → Option ℕ → ℕ → ℕ → Type 0
Extends bits None low number = number ≡ low % 2 ^ bits
Extends bits (Some previous) low number = IsNearest bits previous low number

-- the number ends in the low bits and is less than half of their number space away from the previous one, if there is one
abbrev pub IsWithinHalf : ℕ → Option ℕ → ℕ → ℕ → Type 0
IsWithinHalf bits None low number = ⊥
IsWithinHalf bits (Some previous) low number = (number < 2 ^ 64) × (number % 2 ^ bits ≡ low % 2 ^ bits) × (distance previous number < 2 ^ (bits - 1))
