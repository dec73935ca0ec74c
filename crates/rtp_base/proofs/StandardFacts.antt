-- Worked rows, computed from the definitions.
use Rattle.rtp_base.proofs.Common.{◌≡◌, ℕ, refl, arith, Fraction, fraction_cmp, IsLess, whole_ticks, in_ticks, sum_of, IsDifference}
use Rattle.std.specs.declared.cmp.Ordering.TheVariants.{Equal, Greater}

abbrev at : ℕ → ℕ → Fraction
at numer denom = record { numer = numer; denom = denom }

-- 1 at 3 is more than 1 at 4, and more than 333333 at 1000000
third_and_quarter : fraction_cmp (at 1 3) (at 1 4) ≡ Greater
third_and_quarter = refl

third_and_six_digits : fraction_cmp (at 1 3) (at 333333 1000000) ≡ Greater
third_and_six_digits = refl

-- 250 at 1000 is 1 at 4
quarter_in_millis : fraction_cmp (at 250 1000) (at 1 4) ≡ Equal
quarter_in_millis = refl

-- 1 at 4 is less than 1 at 3, and 1 at 3 less 1 at 4 is 0 at 4
quarter_is_less : IsLess (at 1 4) (at 1 3)
quarter_is_less = omega arith

third_less_quarter : IsDifference (at 1 3) (at 1 4) (at 0 4)
third_less_quarter = record { denom = refl; numer = refl }

-- 1 at 3 and 1 at 4 are 2 at 4
third_and_quarter_together : sum_of (at 1 3) (at 1 4) ≡ at 2 4
third_and_quarter_together = refl

-- ten seconds are 900000 ticks of 90 kHz
ten_seconds : in_ticks (at 10 1) 90000 ≡ at 900000 90000
ten_seconds = refl

-- 2^64 - 1 at 2, in whole seconds
half_of_the_greatest : whole_ticks (at 18446744073709551615 2) 1 ≡ 9223372036854775807
half_of_the_greatest = refl
