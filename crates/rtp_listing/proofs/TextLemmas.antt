-- Numbers in decimal, by several of their last digits.
use Rattle.rtp_listing.proofs.Common.{◌≡◌, ℕ, ◌+◌, ◌/◌, ◌%◌, ◌<◌, ◌≤◌, ◌^◌, List, [], ◌∷◌, ◌++◌, refl, sym, ap, ◌∙◌, arith, append_assoc, ◌*◌, Bool, true, false, zero, suc, get_or, eqb, inl, inr, length, take, drop, ◌&&◌, decimal, drop_more, eqb-true, cases_lt, decimal_digit, decimal_step, two_digits, four_digits, TWO_DIGITS}

-- what is put behind a text in two steps
pub in_two : (old between new a b all : List ℕ) → between ≡ old ++ a → new ≡ between ++ b → all ≡ a ++ b → new ≡ old ++ all
in_two old between new a b all first second is =
    second ∙ ap (λ (xs : List ℕ). xs ++ b) first ∙ append_assoc old a b ∙ ap (λ (xs : List ℕ). old ++ xs) (sym is)

pub joined : (old between new a b : List ℕ) → between ≡ old ++ a → new ≡ between ++ b → new ≡ old ++ (a ++ b)
joined old between new a b first second = in_two old between new a b (a ++ b) first second refl

pub decimal_two : (n : ℕ) → 10 ≤ n → n < 100 → decimal n ≡ two_digits n
decimal_two n some few =
    decimal_step n some (omega arith) ∙ ap (λ (xs : List ℕ). xs ++ (48 + n % 10) ∷ []) (decimal_digit (n / 10) (omega arith))

pub decimal_more_two : (n : ℕ) → 100 ≤ n → n < 2 ^ 64 → decimal n ≡ decimal (n / 100) ++ two_digits (n % 100)
decimal_more_two n some fits =
    decimal_step n (omega arith) fits
    ∙ ap (λ (xs : List ℕ). xs ++ (48 + n % 10) ∷ []) (decimal_step (n / 10) (omega arith) (omega arith))
    ∙ append_assoc (decimal (n / 10 / 10)) ((48 + n / 10 % 10) ∷ []) ((48 + n % 10) ∷ [])
    ∙ ap (λ (m : ℕ). decimal m ++ (48 + n / 10 % 10) ∷ (48 + n % 10) ∷ []) (omega arith)
    ∙ ap (λ (d : ℕ). decimal (n / 100) ++ (48 + d) ∷ (48 + n % 10) ∷ []) (omega arith)
    ∙ ap (λ (d : ℕ). decimal (n / 100) ++ (48 + n % 100 / 10) ∷ (48 + d) ∷ []) (omega arith)

pub decimal_more_four : (n : ℕ) → 10000 ≤ n → n < 2 ^ 64 → decimal n ≡ decimal (n / 10000) ++ four_digits (n % 10000)
decimal_more_four n some fits =
    decimal_more_two n (omega arith) fits
    ∙ ap (λ (xs : List ℕ). xs ++ two_digits (n % 100)) (decimal_more_two (n / 100) (omega arith) (omega arith))
    ∙ append_assoc (decimal (n / 100 / 100)) (two_digits (n / 100 % 100)) (two_digits (n % 100))
    ∙ ap (λ (m : ℕ). decimal m ++ (two_digits (n / 100 % 100) ++ two_digits (n % 100))) (omega arith)
    ∙ ap (λ (d : ℕ). decimal (n / 10000) ++ (two_digits d ++ two_digits (n % 100))) (omega arith)
    ∙ ap (λ (d : ℕ). decimal (n / 10000) ++ (two_digits (n % 10000 / 100) ++ two_digits d)) (omega arith)

pub decimal_more_eight : (n : ℕ) → 100000000 ≤ n → n < 2 ^ 64
    → decimal n ≡ decimal (n / 100000000) ++ (four_digits (n % 100000000 / 10000) ++ four_digits (n % 100000000 % 10000))
decimal_more_eight n some fits =
    decimal_more_four n (omega arith) fits
    ∙ ap (λ (xs : List ℕ). xs ++ four_digits (n % 10000)) (decimal_more_four (n / 10000) (omega arith) (omega arith))
    ∙ append_assoc (decimal (n / 10000 / 10000)) (four_digits (n / 10000 % 10000)) (four_digits (n % 10000))
    ∙ ap (λ (m : ℕ). decimal m ++ (four_digits (n / 10000 % 10000) ++ four_digits (n % 10000))) (omega arith)
    ∙ ap (λ (d : ℕ). decimal (n / 100000000) ++ (four_digits d ++ four_digits (n % 10000))) (omega arith)
    ∙ ap (λ (d : ℕ). decimal (n / 100000000) ++ (four_digits (n % 100000000 / 10000) ++ four_digits d)) (omega arith)

-- the first n entries of the table are the two digits of each number below n
abbrev holds_digits : ℕ → Bool
holds_digits zero = true
holds_digits (suc n) = (eqb (get_or TWO_DIGITS (n * 2) 0) (48 + n / 10) && eqb (get_or TWO_DIGITS (n * 2 + 1) 0) (48 + n % 10)) && holds_digits n

both_true : (a b : Bool) → (a && b) ≡ true → (a ≡ true) × (b ≡ true)
both_true true b e = (refl, e)
both_true false b e = absurd (cc e)

digits_below : (n number : ℕ) → holds_digits n ≡ true → number < n → (get_or TWO_DIGITS (number * 2) 0 ≡ 48 + number / 10) × (get_or TWO_DIGITS (number * 2 + 1) 0 ≡ 48 + number % 10)
digits_below zero number are below = absurd (omega arith)
digits_below (suc n) number are below =
    let parts = both_true _ (holds_digits n) are in
    elim (cases_lt number n) [
      | inl lower ↦ digits_below n number parts.1 lower
      | inr last ↦
          let here : number ≡ n = omega arith in
          let digits = both_true _ _ parts.0 in
          rw here (eqb-true _ _ digits.0, eqb-true _ _ digits.1)
    ]

-- so the two bytes there are its two digits
pub two_at : (number : ℕ) → number < 100 → take 2 (drop (number * 2) TWO_DIGITS) ≡ two_digits number
two_at number below =
    let long : length TWO_DIGITS ≡ 200 = refl in
    let ones = get_or TWO_DIGITS (number * 2 + 1) 0 in
    let pair = digits_below 100 number refl below in
    ap (take 2) (drop_more TWO_DIGITS (number * 2) 0 (omega arith) ∙ ap (λ (xs : List ℕ). get_or TWO_DIGITS (number * 2) 0 ∷ xs) (drop_more TWO_DIGITS (number * 2 + 1) 0 (omega arith)))
    ∙ ap (λ (d : ℕ). d ∷ ones ∷ []) pair.0 ∙ ap (λ (d : ℕ). (48 + number / 10) ∷ d ∷ []) pair.1
