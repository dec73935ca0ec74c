-- Hundredths of a second, from the whole seconds and what is left.
use Rattle.std.proofs.Common.{◌≡◌, ℕ, ◌+◌, ◌*◌, ◌/◌, ◌%◌, ◌<◌, sym, ◌∙◌, ap, arith}
use Rattle.std.proofs.Math.Nat.{div-add-mod, mul-add-div}

in_seconds : (n d : ℕ) → 0 < d → n * 100 / d ≡ 100 * (n / d) + n % d * 100 / d
in_seconds n d some =
    let whole : n * 100 ≡ d * (100 * (n / d)) + n % d * 100 = scaled (n / d) (n % d) (sym (div-add-mod n d)) in
    ap (λ (m : ℕ). m / d) whole ∙ mul-add-div some (100 * (n / d)) (n % d * 100)
  where
    scaled : (q r : ℕ) → n ≡ d * q + r → n * 100 ≡ d * (100 * q) + r * 100
    scaled q r is = grind (arith, is)

modulo : (seconds left : ℕ) → (seconds % 4096 * 100 + left) % 4096 ≡ (100 * seconds + left) % 4096
modulo seconds left = omega arith

pub hundredths_in_parts : (n d : ℕ) → 0 < d → (n / d % 4096 * 100 + n % d * 100 / d) % 4096 ≡ n * 100 / d % 4096
hundredths_in_parts n d some = modulo (n / d) (n % d * 100 / d) ∙ ap (λ (m : ℕ). m % 4096) (sym (in_seconds n d some))
