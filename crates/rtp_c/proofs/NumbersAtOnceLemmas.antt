-- Sixteen numbers that are compared with one at once.
use Rattle.std.proofs.Common.{◌≡◌, ◌≢◌, ◌-◌, ℕ, zero, suc, ◌+◌, ◌*◌, ◌^◌, ◌%◌, ◌<◌, ◌≤◌, Bool, true, false, not, cond, eqb, List, [], ◌∷◌, map, length, replicate, get_or, w8, sym, ap, ◌∙◌, refl, arith, ne_eqb}
use Rattle.std.proofs.lemmas.Bool.{eqb-false, eqb-true, not-false}
use Rattle.std.proofs.lemmas.Simd.{bitmask_splat, none_from_empty_mask, length-chunk, get_or-chunk}
use Rattle.std.proofs.lemmas.Nat.{leading_top, le_or_l, le_or_r, or_lt, pow-add}
use Rattle.std.proofs.Math.Nat.{pow-le-pow_right}
use Rattle.std.specs.Prelude.{bit_or}
use lib.Count.{count_leading_zeros}
use lib.Lanes.{chunk, mask_l, top, zip2}

-- no bit is set where no lane passes the test
empty_mask : (p : ℕ → Bool) (xs : List ℕ) → ((k : ℕ) → k < length xs → p (get_or xs k 0) ≡ false) → mask_l (map p xs) ≡ 0
empty_mask p [] none = refl
empty_mask p (x ∷ xs) none =
    let rest = empty_mask p xs (λ k below. none (suc k) (omega (arith, below))) in
    ap (λ (b : Bool). cond b 1 0 + 2 * mask_l (map p xs)) (none 0 (omega arith)) ∙ omega (arith, rest)

module _ (numbers : List ℕ) (wanted mask : ℕ) (long : length numbers ≡ 16)
    (mask_is : mask ≡ mask_l (map (top 7) (zip2 (λ a b. cond (eqb a b) 255 0) (chunk 0 16 numbers) (replicate 16 wanted))) % 2 ^ 64) where
  tested : mask ≡ mask_l (map (λ x. eqb x wanted) (chunk 0 16 numbers))
  tested = mask_is ∙ bitmask_splat w8 eqb (chunk 0 16 numbers) 16 wanted (length-chunk 0 16 numbers (omega arith)) (omega arith)

  pub none_wanted : mask ≡ 0 → (i : ℕ) → i < length numbers → get_or numbers i 0 ≢ wanted
  none_wanted none i below =
      eqb-false (get_or numbers i 0) wanted
      (none_from_empty_mask (λ x. eqb x wanted) numbers 0 16 0 (omega arith) (sym tested ∙ none) i (omega arith) (omega arith))

  pub wanted_none : ((i : ℕ) → i < length numbers → get_or numbers i 0 ≢ wanted) → mask ≡ 0
  wanted_none each =
      tested ∙ empty_mask (λ x. eqb x wanted) (chunk 0 16 numbers) (λ k below.
      let here : k < 16 = omega (arith, below, length-chunk 0 16 numbers (omega arith)) in
      let there : 0 + k ≡ k = omega arith in
      ap (λ (n : ℕ). eqb n wanted) (get_or-chunk 0 16 numbers k 0 here ∙ ap (λ (j : ℕ). get_or numbers j 0) there)
      ∙ ne_eqb (get_or numbers k 0) wanted (each k (omega (arith, here, long))))

no_bit : (b : Bool) (m : ℕ) → cond b 1 0 + 2 * m < 1 → b ≡ false
no_bit false m small = refl
no_bit true m small = absurd (omega (arith, small))

-- a lane whose bit the mask is too small for doesn't pass the test
small_mask : (p : ℕ → Bool) (xs : List ℕ) (i : ℕ) → mask_l (map p xs) < 2 ^ i → i < length xs → p (get_or xs i 0) ≡ false
small_mask p [] i small within = absurd (omega (arith, within))
small_mask p (x ∷ xs) zero small within = no_bit (p x) (mask_l (map p xs)) small
small_mask p (x ∷ xs) (suc i) small within =
    let next : suc i ≡ i + 1 = omega arith in
    let power : 2 ^ suc i ≡ 2 ^ i * 2 = ap (λ (k : ℕ). 2 ^ k) next ∙ pow-add 2 i 1 in
    small_mask p xs i (omega (arith, small, power)) (omega (arith, within))

-- by the highest bit, where the number at index 0 counts as one that isn't 0
module _ (numbers : List ℕ) (mask : ℕ) (long : length numbers ≡ 16)
    (mask_is : mask ≡ mask_l (map (top 7) (zip2 (λ a b. cond (not (eqb a b)) 255 0) (chunk 0 16 numbers) (replicate 16 0))) % 2 ^ 64) where
  others : mask ≡ mask_l (map (λ x. not (eqb x 0)) (chunk 0 16 numbers))
  others = mask_is ∙ bitmask_splat w8 (λ a b. not (eqb a b)) (chunk 0 16 numbers) 16 0 (length-chunk 0 16 numbers (omega arith)) (omega arith)

  within : bit_or mask 1 < 2 ^ 64
  within = or_lt 64 mask 1 (omega (arith, mask_is)) (omega arith)

  highest : (j : ℕ) × (count_leading_zeros 64 (bit_or mask 1) + suc j ≡ 64) × (2 ^ j ≤ bit_or mask 1) × (bit_or mask 1 < 2 ^ suc j)
  highest = leading_top 64 (bit_or mask 1) (omega (arith, le_or_r mask 1)) within

  pub leading_few : count_leading_zeros 64 (bit_or mask 1) ≤ 63
  leading_few = omega (arith, highest.1)

  pub zeros_behind : (i : ℕ) → 63 - count_leading_zeros 64 (bit_or mask 1) < i → i < length numbers → get_or numbers i 0 ≡ 0
  zeros_behind i past below =
      let power : 2 ^ suc highest.0 ≤ 2 ^ i = pow-le-pow_right (omega arith) (omega (arith, past, highest.1)) in
      let small : mask_l (map (λ x. not (eqb x 0)) (chunk 0 16 numbers)) < 2 ^ i = omega (arith, others, le_or_l mask 1, highest.3, power) in
      let here : i < 16 = omega (arith, below, long) in
      let there : 0 + i ≡ i = omega arith in
      let lane = small_mask (λ x. not (eqb x 0)) (chunk 0 16 numbers) i small (omega (arith, here, length-chunk 0 16 numbers (omega arith))) in
      let read = get_or-chunk 0 16 numbers i 0 here ∙ ap (λ (j : ℕ). get_or numbers j 0) there in
      eqb-true (get_or numbers i 0) 0 (not-false _ (ap (λ (n : ℕ). not (eqb n 0)) (sym read) ∙ lane))
