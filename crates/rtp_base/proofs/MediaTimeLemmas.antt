-- Times in whole ticks.
use Rattle.rtp_base.proofs.Common.{◌≡◌, ℕ, ◌*◌, ◌<◌, ◌≤◌, subst, arith, le-div, div-mul-le_self, le_of_mul-le-mul_right, mul-le-mul_right, mul_right_comm, Fraction, per_second, IsAtMost, whole_ticks}

-- what counts as the ticks in a second is the frequency itself, above 0
per_second-pos : (a : Fraction) → 0 < a.denom → per_second a ≡ a.denom
per_second-pos a positive = omega arith

-- what is at most another time stays so in whole ticks
pub whole_ticks-le : (a b : Fraction) (frequency : ℕ) → 0 < a.denom → 0 < b.denom → IsAtMost b a → whole_ticks b frequency ≤ whole_ticks a frequency
whole_ticks-le a b frequency a_positive b_positive below =
    let ticks = whole_ticks b frequency in
    let plain : b.numer * a.denom ≤ a.numer * b.denom =
    subst (λ (n : ℕ). b.numer * n ≤ a.numer * b.denom) (per_second-pos a a_positive)
    (subst (λ (n : ℕ). b.numer * per_second a ≤ a.numer * n) (per_second-pos b b_positive) below) in
    let first : ticks * b.denom * a.denom ≤ b.numer * frequency * a.denom =
    mul-le-mul_right a.denom (div-mul-le_self (b.numer * frequency) b.denom) in
    let second : b.numer * a.denom * frequency ≤ a.numer * b.denom * frequency = mul-le-mul_right frequency plain in
    let left : ticks * b.denom * a.denom ≡ ticks * a.denom * b.denom = mul_right_comm ticks b.denom a.denom in
    let middle : b.numer * frequency * a.denom ≡ b.numer * a.denom * frequency = mul_right_comm b.numer frequency a.denom in
    let right : a.numer * b.denom * frequency ≡ a.numer * frequency * b.denom = mul_right_comm a.numer b.denom frequency in
    let both : ticks * a.denom * b.denom ≤ a.numer * frequency * b.denom = omega arith in
    le-div ticks (a.numer * frequency) a.denom a_positive (le_of_mul-le-mul_right both b_positive)
