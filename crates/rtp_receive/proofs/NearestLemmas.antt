-- There is one nearest number, and it is the extended number.
use Rattle.std.proofs.Common.{◌≡◌, ℕ, suc, ◌+◌, ◌-◌, ◌*◌, ◌/◌, ◌%◌, ◌^◌, ◌<◌, ◌≤◌, ◌⊎◌, sym, ap, ◌∙◌, subst, inl, inr, arith}
use Rattle.std.proofs.Math.Nat.{suc-mul, mul_comm, pow-suc}
use Rattle.std.proofs.lemmas.Nat.{div-add-mod', mod_below, mul-le, pow_pos, pow-add}
use Rattle.std.proofs.lemmas.Bool.{cases_order}
use Rattle.std.specs.Prelude.{Option, Some, None, IfSome}
use Rattle.rtp_receive.specs.Widening.{distance, IsNearest, Extends, IsWithinHalf}
use Rattle.rtp_receive.proofs.WideningLemmas.{IsModulus, IsNearestModulo, split, half-small, IsAhead-computed, IsNearestModulo-ahead, IsNearestModulo-before}

-- ---- there is one nearest number

near-le : (modulus previous number : ℕ) {P : Type 0} → (distance previous number < modulus / 2) ⊎ ((distance previous number ≡ modulus / 2) × P) → distance previous number ≤ modulus / 2
near-le modulus previous number (inl less) = omega arith
near-le modulus previous number (inr just) = let half = just.0 in omega arith

-- two numbers that are the modulus or more apart, both ways round, can't both be nearer than half of it
apart : (modulus half previous a b : ℕ) → modulus ≡ 2 * half → 4 * half ≤ 2 ^ 64 → previous < 2 ^ 64 → a < 2 ^ 64 → b < 2 ^ 64 → a + modulus ≤ b → b + modulus ≤ a + 2 ^ 64
    → distance previous a ≤ half → distance previous b ≤ half → (half ≤ distance previous a) × (half ≤ distance previous b)
apart modulus half previous a b is small p-fits a-fits b-fits up round near-a near-b = (omega arith, omega arith)

module _ (modulus previous low : ℕ) (is : IsModulus modulus) (fits : previous < 2 ^ 64) where
  -- of two numbers with different rollover counts, one is too far
  later : (a b : ℕ) → IsNearestModulo modulus previous low a → IsNearestModulo modulus previous low b → a / modulus < b / modulus → ⊥
  later a b near-a near-b before =
      let at-a = split modulus a is near-a.fits in
      let at-b = split modulus b is near-b.fits in
      let halves = is.halves in
      let half : modulus / 2 ≡ is.half = omega arith in
      let step : suc (a / modulus) * modulus ≤ b / modulus * modulus = mul-le (suc (a / modulus)) modulus (b / modulus) modulus before (omega arith) in
      let up : a + modulus ≤ b = omega (arith, step, suc-mul (a / modulus) modulus, at-a.whole, at-b.whole, near-a.ends, near-b.ends) in
      let round : b + modulus ≤ a + 2 ^ 64 = omega (arith, at-b.fits, at-a.whole, at-b.whole, near-a.ends, near-b.ends) in
      let both = apart modulus is.half previous a b is.halves (half-small modulus is) fits near-a.fits near-b.fits up round
      (omega (arith, near-le modulus previous a near-a.near)) (omega (arith, near-le modulus previous b near-b.near)) in
      let same-a : a / modulus ≡ previous / modulus = elim near-a.near [ inl less ↦ absurd (omega (arith, both.0)) | inr just ↦ just.1 ] in
      let same-b : b / modulus ≡ previous / modulus = elim near-b.near [ inl less ↦ absurd (omega (arith, both.1)) | inr just ↦ just.1 ] in
      omega arith

  pub one_nearest : (a b : ℕ) → IsNearestModulo modulus previous low a → IsNearestModulo modulus previous low b → a ≡ b
  one_nearest a b near-a near-b =
      elim (cases_order (a / modulus) (b / modulus)) [
        | inl same ↦
            sym (div-add-mod' a modulus) ∙ ap (λ (k : ℕ). k * modulus + a % modulus) same
            ∙ ap (λ (k : ℕ). b / modulus * modulus + k) (near-a.ends ∙ sym near-b.ends) ∙ div-add-mod' b modulus
        | inr (inl before) ↦ absurd (later a b near-a near-b before)
        | inr (inr after) ↦ absurd (later b a near-b near-a after)
      ]

-- ---- over the number of bits

half-pow : (bits : ℕ) → 0 < bits → 2 ^ bits ≡ 2 * 2 ^ (bits - 1)
half-pow bits some = let e : bits ≡ suc (bits - 1) = omega arith in ap (λ (k : ℕ). 2 ^ k) e ∙ pow-suc 2 (bits - 1) ∙ mul_comm (2 ^ (bits - 1)) 2

pub IsModulus-pow : (bits : ℕ) → 0 < bits → bits ≤ 32 → IsModulus (2 ^ bits)
IsModulus-pow bits some few = record {
  half = 2 ^ (bits - 1);
  halves = half-pow bits some;
  some = pow_pos (bits - 1);
  rollovers = 2 ^ (64 - bits);
  whole = sym (pow-add 2 (64 - bits) bits) ∙ (let e : 64 - bits + bits ≡ 64 = omega arith in ap (λ (k : ℕ). 2 ^ k) e);
  many = let one : 1 ≤ 2 ^ (64 - bits - 1) = pow_pos (64 - bits - 1) in omega (arith, half-pow (64 - bits) (omega arith), one);
}

half-modulus : (bits : ℕ) → 0 < bits → 2 ^ bits / 2 ≡ 2 ^ (bits - 1)
half-modulus bits some = omega (arith, half-pow bits some)

pub IsNearest-from_modulus : (bits previous low number : ℕ) → 0 < bits → IsNearestModulo (2 ^ bits) previous (low % 2 ^ bits) number → IsNearest bits previous low number
IsNearest-from_modulus bits previous low number some near = record { fits = near.fits; ends = near.ends; near = rw (half-modulus bits some) at near.near }

pub IsNearestModulo-from_bits : (bits previous low number : ℕ) → 0 < bits → IsNearest bits previous low number → IsNearestModulo (2 ^ bits) previous (low % 2 ^ bits) number
IsNearestModulo-from_bits bits previous low number some near = record { fits = near.fits; ends = near.ends; near = rw (half-modulus bits some) near.near }

-- what is nearest is the only one
pub only_near : (bits : ℕ) (previous : Option ℕ) (low a b : ℕ) → 0 < bits → bits ≤ 32 → IfSome previous (λ p. p < 2 ^ 64) → Extends bits previous low a → Extends bits previous low b → a ≡ b
only_near bits None low a b some few fits near-a near-b = near-a ∙ sym near-b
only_near bits (Some previous) low a b some few fits near-a near-b =
    one_nearest (2 ^ bits) previous (low % 2 ^ bits) (IsModulus-pow bits some few) fits a b
    (IsNearestModulo-from_bits bits previous low a some near-a) (IsNearestModulo-from_bits bits previous low b some near-b)

-- what is close is nearest
pub Extends-within_half : (bits : ℕ) (previous : Option ℕ) (low number : ℕ) → IsWithinHalf bits previous low number → Extends bits previous low number
Extends-within_half bits None low number close = absurd close
Extends-within_half bits (Some previous) low number close = record { fits = close.0; ends = close.1; near = inl close.2 }

-- the number nearest to the previous one, whose modulus is this power of two, is the extended number, and no other
abbrev pub IsWidened : ℕ → Option ℕ → ℕ → ℕ → Type 0
IsWidened bits previous low number = record {
  near : Extends bits previous low number;
  only : (n : ℕ) → Extends bits previous low n → number ≡ n;
  close : (n : ℕ) → IsWithinHalf bits previous low n → number ≡ n;
}

IsWidened-near : (bits modulus : ℕ) (given : Option ℕ) (previous low number : ℕ) → 0 < bits → bits ≤ 32 → given ≡ Some previous → previous < 2 ^ 64 → modulus ≡ 2 ^ bits
    → IsNearestModulo modulus previous (low % modulus) number → IsWidened bits given low number
IsWidened-near bits modulus given previous low number some few is fits same nearest =
    let near : Extends bits given low number =
    rw is (IsNearest-from_modulus bits previous low number some (subst (λ (t : ℕ). IsNearestModulo t previous (low % t) number) same nearest)) in
    let in_range : IfSome given (λ p. p < 2 ^ 64) = rw is fits in
    record {
      near = near;
      only = λ n other. only_near bits given low number n some few in_range near other;
      close = λ n close. only_near bits given low number n some few in_range near (Extends-within_half bits given low n close);
    }

module _ (bits modulus : ℕ) (given : Option ℕ) (previous low : ℕ) (some : 0 < bits) (few : bits ≤ 32) (is : given ≡ Some previous) (fits : previous < 2 ^ 64) (same : modulus ≡ 2 ^ bits) where
  is_modulus : IsModulus modulus
  is_modulus = subst IsModulus (sym same) (IsModulus-pow bits some few)

  below : low % modulus < modulus
  below = mod_below low modulus (let some = is_modulus.some in omega (arith, is_modulus.halves))

  -- how far ahead of the previous number one with these low bits comes next
  abbrev next : ℕ
  next = (low % modulus + (2 ^ 64 - previous)) % 2 ^ 64 % modulus

  pub IsWidened-ahead : (next < modulus / 2) ⊎ ((next ≡ modulus / 2) × (previous % modulus < modulus / 2)) → IsWidened bits given low ((previous + next) % 2 ^ 64)
  IsWidened-ahead near =
      IsWidened-near bits modulus given previous low _ some few is fits same
      (IsNearestModulo-ahead modulus previous (low % modulus) is_modulus fits below _ (IsAhead-computed modulus previous (low % modulus) is_modulus fits below) near)

  pub IsWidened-before : modulus / 2 ≤ next → (next ≡ modulus / 2 → modulus / 2 ≤ previous % modulus) → IsWidened bits given low (((previous + next) % 2 ^ 64 + (2 ^ 64 - modulus)) % 2 ^ 64)
  IsWidened-before far tie =
      IsWidened-near bits modulus given previous low _ some few is fits same
      (IsNearestModulo-before modulus previous (low % modulus) is_modulus fits below _ (IsAhead-computed modulus previous (low % modulus) is_modulus fits below) far tie)
