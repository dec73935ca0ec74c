-- The number that is nearest to the previous one, modulo a modulus.
use Rattle.std.proofs.Common.{◌≡◌, ℕ, suc, ◌+◌, ◌-◌, ◌*◌, ◌/◌, ◌%◌, ◌^◌, ◌<◌, ◌≤◌, ◌⊎◌, refl, sym, ap, ◌∙◌, subst, inl, inr, arith, zero-add}
use Rattle.std.proofs.Math.Nat.{suc-mul, zero-mul, add-mul, mod-eq_of_lt}
use Rattle.std.proofs.lemmas.Nat.{div-add-mod', mod_below, div_below, mul-le, mod-mul-add, div-mul-add}
use Rattle.std.proofs.lemmas.Bool.{cases_lt, cases_eq}
use Rattle.rtp_receive.specs.Widening.{distance}

-- an even number that divides 2^64, and of which 2^64 is at least twice as much: the low bits roll over `rollovers` times
pub record IsModulus (modulus : ℕ) : Type 0 where
  pub half : ℕ
  pub halves : modulus ≡ 2 * half
  pub some : 0 < half
  pub rollovers : ℕ
  pub whole : rollovers * modulus ≡ 2 ^ 64
  pub many : 2 ≤ rollovers

-- as `IsNearest`, with half of the modulus for half of the numbers that the low bits can hold
pub record IsNearestModulo (modulus previous low number : ℕ) : Type 0 where
  pub fits : number < 2 ^ 64
  pub ends : number % modulus ≡ low
  pub near : (distance previous number < modulus / 2) ⊎ ((distance previous number ≡ modulus / 2) × (number / modulus ≡ previous / modulus))

-- a number below 2^64 by its rollover count and its low bits
pub record IsSplit (modulus number rollovers : ℕ) : Type 0 where
  pub whole : number / modulus * modulus + number % modulus ≡ number
  pub below : number % modulus < modulus
  pub before : number / modulus < rollovers
  pub fits : number / modulus * modulus + modulus ≤ 2 ^ 64

pub split : (modulus number : ℕ) (is : IsModulus modulus) → number < 2 ^ 64 → IsSplit modulus number is.rollovers
split modulus number is fits =
    let some : 0 < modulus = let some = is.some in omega (arith, is.halves) in
    let before : number / modulus < is.rollovers = div_below number modulus is.rollovers some (omega (arith, is.whole)) in
    let next : suc (number / modulus) * modulus ≤ is.rollovers * modulus = mul-le (suc (number / modulus)) modulus is.rollovers modulus (omega arith) (omega arith) in
    record {
      whole = div-add-mod' number modulus;
      below = mod_below number modulus some;
      before = before;
      fits = omega (arith, suc-mul (number / modulus) modulus, is.whole, next);
    }

-- half of the modulus is at most a quarter of 2^64
pub half-small : (modulus : ℕ) (is : IsModulus modulus) → 4 * is.half ≤ 2 ^ 64
half-small modulus is =
    let two : 2 * modulus ≤ is.rollovers * modulus = mul-le 2 modulus is.rollovers modulus is.many (omega arith) in
    omega (arith, is.halves, is.whole, two)

-- a number of this rollover count and these low bits, near to the previous one
IsNearestModulo-at : (modulus previous low number rollovers : ℕ) → low < modulus → number ≡ rollovers * modulus + low → number < 2 ^ 64
    → (distance previous number < modulus / 2) ⊎ ((distance previous number ≡ modulus / 2) × (rollovers ≡ previous / modulus)) → IsNearestModulo modulus previous low number
IsNearestModulo-at modulus previous low number rollovers below is fits near = record {
  fits = fits;
  ends = ap (λ (n : ℕ). n % modulus) is ∙ mod-mul-add rollovers modulus low below;
  near = elim near [
    | inl closer ↦ inl closer
    | inr (half, same) ↦ inr (half, ap (λ (n : ℕ). n / modulus) is ∙ div-mul-add rollovers modulus low below ∙ same)
  ];
}

-- ---- distances, over plain numbers: `front` is the previous number without its low bits

near_same : (half front offset low : ℕ) → 4 * half ≤ 2 ^ 64 → low ≤ offset + half → offset ≤ low + half → front + offset < 2 ^ 64 → front + low < 2 ^ 64
    → (distance (front + offset) (front + low) < half) ⊎ (distance (front + offset) (front + low) ≡ half)
near_same half front offset low small up down here there =
    elim (cases_lt (distance (front + offset) (front + low)) half) [
      | inl closer ↦ inl closer
      | inr far ↦ inr (omega arith)
    ]

near_before : (half modulus before offset low : ℕ) → modulus ≡ 2 * half → 4 * half ≤ 2 ^ 64 → offset + half < low → low < modulus → before + modulus + offset < 2 ^ 64
    → distance (before + modulus + offset) (before + low) < half
near_before half modulus before offset low is small up below fits = omega arith

near_wrapped_before : (half modulus last offset low : ℕ) → modulus ≡ 2 * half → 4 * half ≤ 2 ^ 64 → offset + half < low → low < modulus → last + modulus ≡ 2 ^ 64
    → distance offset (last + low) < half
near_wrapped_before half modulus last offset low is small up below all = omega arith

near_after : (half modulus front offset low : ℕ) → modulus ≡ 2 * half → 4 * half ≤ 2 ^ 64 → low + half < offset → offset < modulus → front + modulus + low < 2 ^ 64
    → distance (front + offset) (front + modulus + low) < half
near_after half modulus front offset low is small down below fits = omega arith

near_wrapped_after : (half modulus front offset low : ℕ) → modulus ≡ 2 * half → 4 * half ≤ 2 ^ 64 → low + half < offset → offset < modulus → front + modulus ≡ 2 ^ 64
    → distance (front + offset) low < half
near_wrapped_after half modulus front offset low is small down below all = omega arith

-- ---- the three answers

module _ (modulus previous low : ℕ) (is : IsModulus modulus) (fits : previous < 2 ^ 64) (below : low < modulus) where
  placed : IsSplit modulus previous is.rollovers
  placed = split modulus previous is fits

  half-is : modulus / 2 ≡ is.half
  half-is = let h = is.halves in omega arith

  pub same_rollover-near : low ≤ previous % modulus + modulus / 2 → previous % modulus ≤ low + modulus / 2 → IsNearestModulo modulus previous low (previous - previous % modulus + low)
  same_rollover-near up down =
      let whole = placed.whole in
      let room = placed.fits in
      let at : previous - previous % modulus + low ≡ previous / modulus * modulus + low = omega arith in
      let near = near_same is.half (previous / modulus * modulus) (previous % modulus) low (half-small modulus is) (omega (arith, half-is)) (omega (arith, half-is)) (omega arith) (omega arith) in
      IsNearestModulo-at modulus previous low (previous - previous % modulus + low) (previous / modulus) below at (omega arith) (rw half-is (elim near [
        | inl less ↦ inl (rw at (subst (λ (p : ℕ). distance p (previous / modulus * modulus + low) < is.half) whole less))
        | inr just ↦ inr (rw at (subst (λ (p : ℕ). distance p (previous / modulus * modulus + low) ≡ is.half) whole just), refl)
      ]))

  pub rollover_before-near : previous % modulus + modulus / 2 < low → IsNearestModulo modulus previous low ((previous - previous % modulus + low + (2 ^ 64 - modulus)) % 2 ^ 64)
  rollover_before-near up =
      let whole = placed.whole in
      let room = placed.fits in
      elim (cases_lt 0 (previous / modulus)) [
        | inl some ↦
            let before = (previous / modulus - 1) * modulus in
            let one : before + modulus ≡ previous / modulus * modulus = sym (ap (λ (k : ℕ). k * modulus) (let e : previous / modulus ≡ suc (previous / modulus - 1) = omega arith in e) ∙ suc-mul (previous / modulus - 1) modulus) in
            let at : (previous - previous % modulus + low + (2 ^ 64 - modulus)) % 2 ^ 64 ≡ before + low = omega arith in
            let here : before + modulus + previous % modulus ≡ previous = omega arith in
            let near = near_before is.half modulus before (previous % modulus) low is.halves (half-small modulus is) (omega (arith, half-is)) below (omega arith) in
            IsNearestModulo-at modulus previous low _ (previous / modulus - 1) below at (omega arith)
            (inl (rw (at, half-is) (subst (λ (p : ℕ). distance p (before + low) < is.half) here near)))
        | inr none ↦
            let first : previous / modulus ≡ 0 = omega arith in
            let start : previous / modulus * modulus ≡ 0 = ap (λ (k : ℕ). k * modulus) first ∙ zero-mul modulus in
            let last = (is.rollovers - 1) * modulus in
            let all : last + modulus ≡ 2 ^ 64 = sym (ap (λ (k : ℕ). k * modulus) (let many = is.many in let e : is.rollovers ≡ suc (is.rollovers - 1) = omega arith in e) ∙ suc-mul (is.rollovers - 1) modulus) ∙ is.whole in
            let at : (previous - previous % modulus + low + (2 ^ 64 - modulus)) % 2 ^ 64 ≡ last + low = omega arith in
            let here : previous % modulus ≡ previous = omega arith in
            let near = near_wrapped_before is.half modulus last (previous % modulus) low is.halves (half-small modulus is) (omega (arith, half-is)) below all in
            IsNearestModulo-at modulus previous low _ (is.rollovers - 1) below at (omega arith)
            (inl (rw (at, half-is) (subst (λ (p : ℕ). distance p (last + low) < is.half) here near)))
      ]

  pub rollover_after-near : low + modulus / 2 < previous % modulus → IsNearestModulo modulus previous low ((previous - previous % modulus + low + modulus) % 2 ^ 64)
  rollover_after-near down =
      let whole = placed.whole in
      let room = placed.fits in
      let inside = placed.below in
      let front = previous / modulus * modulus in
      elim (cases_lt (suc (previous / modulus)) is.rollovers) [
        | inl more ↦
            let next : suc (previous / modulus) * modulus ≡ front + modulus = suc-mul (previous / modulus) modulus in
            let over : suc (suc (previous / modulus)) * modulus ≤ is.rollovers * modulus = mul-le (suc (suc (previous / modulus))) modulus is.rollovers modulus (omega arith) (omega arith) in
            let fits' : front + modulus + modulus ≤ 2 ^ 64 = omega (arith, suc-mul (suc (previous / modulus)) modulus, is.whole, over, next) in
            let at : (previous - previous % modulus + low + modulus) % 2 ^ 64 ≡ suc (previous / modulus) * modulus + low = omega arith in
            let near = near_after is.half modulus front (previous % modulus) low is.halves (half-small modulus is) (omega (arith, half-is)) inside (omega arith) in
            IsNearestModulo-at modulus previous low _ (suc (previous / modulus)) below at (omega arith)
            (inl (rw (at, half-is, next) (subst (λ (p : ℕ). distance p (front + modulus + low) < is.half) whole near)))
        | inr last ↦
            let end : suc (previous / modulus) ≡ is.rollovers = let e = placed.before in omega arith in
            let all : front + modulus ≡ 2 ^ 64 = sym (suc-mul (previous / modulus) modulus) ∙ ap (λ (k : ℕ). k * modulus) end ∙ is.whole in
            let at : (previous - previous % modulus + low + modulus) % 2 ^ 64 ≡ 0 * modulus + low = omega (arith, zero-mul modulus) in
            let near = near_wrapped_after is.half modulus front (previous % modulus) low is.halves (half-small modulus is) (omega (arith, half-is)) inside all in
            IsNearestModulo-at modulus previous low _ 0 below at (omega (arith, zero-mul modulus))
            (inl (rw (at, half-is, zero-mul modulus, zero-add low) (subst (λ (p : ℕ). distance p low < is.half) whole near)))
      ]

-- ---- how far after the previous number the next one stands that has the low bits

-- `ahead` is that distance
pub IsAhead : (modulus previous low ahead : ℕ) → Type 0
IsAhead modulus previous low ahead =
    ((previous % modulus ≤ low) × (ahead ≡ low - previous % modulus)) ⊎ ((low < previous % modulus) × (ahead ≡ low + modulus - previous % modulus))

module _ (modulus previous low : ℕ) (is : IsModulus modulus) (fits : previous < 2 ^ 64) (below : low < modulus) where
  rest-is : (count : ℕ) → count ≤ is.rollovers → (is.rollovers - count) * modulus + count * modulus ≡ 2 ^ 64
  rest-is count few = sym (add-mul (is.rollovers - count) count modulus) ∙ ap (λ (k : ℕ). k * modulus) (let e : is.rollovers - count + count ≡ is.rollovers = omega arith in e) ∙ is.whole

  pub IsAhead-computed : IsAhead modulus previous low ((low + (2 ^ 64 - previous)) % 2 ^ 64 % modulus)
  unfolding IsAhead
  IsAhead-computed =
      let at = split modulus previous is fits in
      let whole = at.whole in
      let inside = at.below in
      let before = at.before in
      let rollovers = previous / modulus in
      elim (cases_lt low (previous % modulus)) [
        | inl down ↦
            let rest = (is.rollovers - suc rollovers) * modulus in
            let all = rest-is (suc rollovers) (omega arith) in
            let e : (low + (2 ^ 64 - previous)) % 2 ^ 64 ≡ rest + (low + modulus - previous % modulus) = omega (arith, all, suc-mul rollovers modulus) in
            inr (down, ap (λ (n : ℕ). n % modulus) e ∙ mod-mul-add (is.rollovers - suc rollovers) modulus (low + modulus - previous % modulus) (omega arith))
        | inr up ↦ inl (
          up,
          elim (cases_lt 0 rollovers) [
            | inl some ↦
                let rest = (is.rollovers - rollovers) * modulus in
                let all = rest-is rollovers (omega arith) in
                let one : 1 * modulus ≤ rollovers * modulus = mul-le 1 modulus rollovers modulus (omega arith) (omega arith) in
                let e : (low + (2 ^ 64 - previous)) % 2 ^ 64 ≡ rest + (low - previous % modulus) = omega (arith, all, one) in
                ap (λ (n : ℕ). n % modulus) e ∙ mod-mul-add (is.rollovers - rollovers) modulus (low - previous % modulus) (omega arith)
            | inr none ↦
                let start : rollovers * modulus ≡ 0 = ap (λ (k : ℕ). k * modulus) (let e : rollovers ≡ 0 = omega arith in e) ∙ zero-mul modulus in
                let e : (low + (2 ^ 64 - previous)) % 2 ^ 64 ≡ low - previous % modulus = omega (arith, start) in
                ap (λ (n : ℕ). n % modulus) e ∙ mod-eq_of_lt (omega arith)
          ],
        )
      ]

  -- the number so far ahead is nearest if it is less than half of the modulus ahead, or just half and of the same rollover count
  pub IsNearestModulo-ahead : (ahead : ℕ) → IsAhead modulus previous low ahead → (ahead < modulus / 2) ⊎ ((ahead ≡ modulus / 2) × (previous % modulus < modulus / 2))
      → IsNearestModulo modulus previous low ((previous + ahead) % 2 ^ 64)
  unfolding IsAhead
  IsNearestModulo-ahead ahead (inl same) near =
      let at = split modulus previous is fits in
      let up = same.0 in
      let e : (previous + ahead) % 2 ^ 64 ≡ previous - previous % modulus + low = omega (arith, same.1, at.whole, at.fits) in
      rw e (same_rollover-near modulus previous low is fits below (elim near [ inl less ↦ omega (arith, same.1) | inr just ↦ omega (arith, same.1, just.0) ]) (omega arith))
  IsNearestModulo-ahead ahead (inr after) near =
      let at = split modulus previous is fits in
      let down = after.0 in
      let halves = is.halves in
      let e : (previous + ahead) % 2 ^ 64 ≡ (previous - previous % modulus + low + modulus) % 2 ^ 64 = omega (arith, after.1, at.whole, at.below) in
      rw e (rollover_after-near modulus previous low is fits below (elim near [ inl less ↦ omega (arith, after.1, at.below) | inr just ↦ absurd (omega (arith, after.1, at.below, just.0, just.1)) ]))

  -- otherwise the one before it is
  pub IsNearestModulo-before : (ahead : ℕ) → IsAhead modulus previous low ahead → modulus / 2 ≤ ahead → (ahead ≡ modulus / 2 → modulus / 2 ≤ previous % modulus)
      → IsNearestModulo modulus previous low (((previous + ahead) % 2 ^ 64 + (2 ^ 64 - modulus)) % 2 ^ 64)
  unfolding IsAhead
  IsNearestModulo-before ahead (inl same) far tie =
      let at = split modulus previous is fits in
      let up = same.0 in
      let halves = is.halves in
      let e : ((previous + ahead) % 2 ^ 64 + (2 ^ 64 - modulus)) % 2 ^ 64 ≡ (previous - previous % modulus + low + (2 ^ 64 - modulus)) % 2 ^ 64 = omega (arith, same.1, at.whole, at.fits) in
      rw e (rollover_before-near modulus previous low is fits below (elim (cases_eq ahead (modulus / 2)) [
        | inl just ↦ absurd (let high = tie just in omega (arith, same.1, just, high))
        | inr more ↦ omega (arith, same.1, more)
      ]))
  IsNearestModulo-before ahead (inr after) far tie =
      let at = split modulus previous is fits in
      let down = after.0 in
      let halves = is.halves in
      let room = at.fits in
      let e : ((previous + ahead) % 2 ^ 64 + (2 ^ 64 - modulus)) % 2 ^ 64 ≡ previous - previous % modulus + low = omega (arith, after.1, at.whole, at.below) in
      rw e (same_rollover-near modulus previous low is fits below (omega arith) (omega (arith, after.1, at.below)))
