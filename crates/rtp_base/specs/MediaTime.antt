-- Media times as fractions: a number of ticks over the ticks in a second, as an RTP timestamp counts them (RFC 3550, 5.1).
use Rattle.std.specs.Prelude.{◌≡◌, ℕ, ◌+◌, ◌*◌, ◌/◌, ◌<◌, ◌≤◌, ◌^◌, Bool, ◌==◌, max}
use Rattle.std.specs.declared.cmp.Ordering.{Ordering}
use Rattle.std.specs.Ordering.{nat_cmp}

-- a number of ticks, and how many of them make a second
pub record Fraction : Type 0 where
  pub numer : ℕ
  pub denom : ℕ

-- the ticks in a second; a frequency is never 0, and 0 counts as 1 here, so that all fractions are ordered
abbrev pub per_second : Fraction → ℕ
per_second a = max 1 a.denom

-- the first time is less: a/b is less than c/d where a times d is less than c times b
abbrev pub IsLess : Fraction → Fraction → Type 0
IsLess a b = a.numer * per_second b < b.numer * per_second a

-- the first is at most the second
abbrev pub IsAtMost : Fraction → Fraction → Type 0
IsAtMost a b = a.numer * per_second b ≤ b.numer * per_second a

-- whether the two times are equal
abbrev pub fraction_eq : Fraction → Fraction → Bool
fraction_eq a b = a.numer * per_second b == b.numer * per_second a

-- the order of the two times
abbrev pub fraction_cmp : Fraction → Fraction → Ordering
fraction_cmp a b = nat_cmp (a.numer * per_second b) (b.numer * per_second a)

-- the time in whole ticks of a frequency, rounded down
abbrev pub whole_ticks : Fraction → ℕ → ℕ
whole_ticks a frequency = a.numer * frequency / a.denom

-- the time of these whole ticks
abbrev pub in_ticks : Fraction → ℕ → Fraction
in_ticks a frequency = record { numer = whole_ticks a frequency; denom = frequency }

-- the time one tick later
abbrev pub next_tick : Fraction → Fraction
next_tick a = record { numer = a.numer + 1; denom = a.denom }

-- the greater of the two frequencies
abbrev pub common_frequency : Fraction → Fraction → ℕ
common_frequency a b = max a.denom b.denom

-- the ticks of each time at the greater of the two frequencies fit 64 bits
pub record BothFit (a b : Fraction) : Type 0 where
  pub left : whole_ticks a (common_frequency a b) < 2 ^ 64
  pub right : whole_ticks b (common_frequency a b) < 2 ^ 64

-- the sum: the ticks of both times at the greater frequency, added
abbrev pub sum_of : Fraction → Fraction → Fraction
sum_of a b =
    let frequency = common_frequency a b in
    record { numer = whole_ticks a frequency + whole_ticks b frequency; denom = frequency }

-- the ticks of the sum fit 64 bits
abbrev pub SumFits : Fraction → Fraction → Type 0
SumFits a b = (sum_of a b).numer < 2 ^ 64

-- the difference: the ticks of the first time at the greater frequency without those of the second
pub record IsDifference (a b difference : Fraction) : Type 0 where
  pub denom : difference.denom ≡ common_frequency a b
  pub numer : whole_ticks b difference.denom + difference.numer ≡ whole_ticks a difference.denom
