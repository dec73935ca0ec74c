-- For the prover: the order of media times is a total order. A reader may skip this file.
use Rattle.std.specs.Prelude.{◌≡◌, ℕ, ◌<◌, ◌*◌, Some}
use Rattle.std.specs.declared.cmp.Ordering.{Ordering}
use Rattle.std.specs.declared.cmp.Ordering.TheVariants.{Less, Equal, Greater}
use Rattle.std.specs.Ordering.{MatchOrdering, nat_cmp, eq_by_cmp}
use Rattle.std.specs.Cmp.{IsTotalOrder, IsEquivalence, IsPartialOrder, nat_cmp_total, nat_cmp_is, ranks, unsigned_ties, eq_by_cmp_equiv, po}
use Rattle.std.proofs.Common.{sym, ap, ◌∙◌, subst, arith}
use Rattle.std.proofs.Math.Nat.{lt_of_mul-lt-mul_right, eq_of_mul-eq-mul_right, mul_right_comm}
use Rattle.rtp_base.specs.MediaTime.{Fraction, per_second, fraction_eq, fraction_cmp}

-- a factor on both sides changes nothing
without_factor : (x y k : ℕ) → 0 < k → (r : Ordering) → MatchOrdering r (x * k < y * k) (x * k ≡ y * k) (y * k < x * k) → MatchOrdering r (x < y) (x ≡ y) (y < x)
without_factor x y k positive Less h = lt_of_mul-lt-mul_right k h
without_factor x y k positive Equal h = eq_of_mul-eq-mul_right k positive x y h
without_factor x y k positive Greater h = lt_of_mul-lt-mul_right k h

nat_cmp-mul : (x y k : ℕ) → 0 < k → nat_cmp (x * k) (y * k) ≡ nat_cmp x y
nat_cmp-mul x y k positive = nat_cmp_is x y (nat_cmp (x * k) (y * k)) (without_factor x y k positive (nat_cmp (x * k) (y * k)) (ranks (x * k) (y * k)))

per_second-pos : (a : Fraction) → 0 < per_second a
per_second-pos a = omega arith

-- equal numbers are those that the order does not tell apart
equal_where_tied : (x y : ℕ) → nat_cmp x y ≡ Equal → x ≡ y
equal_where_tied x y e = subst (λ (r : Ordering). MatchOrdering r (x < y) (x ≡ y) (y < x)) e (ranks x y)

-- the order of two fractions, with the parts of a third on both sides
over : (a b c : Fraction) → nat_cmp (a.numer * per_second b * per_second c) (b.numer * per_second a * per_second c) ≡ fraction_cmp a b
over a b c = nat_cmp-mul (a.numer * per_second b) (b.numer * per_second a) (per_second c) (per_second-pos c)

-- the parts in the other order
swapped : (a b c : Fraction) → a.numer * per_second b * per_second c ≡ a.numer * per_second c * per_second b
swapped a b c = mul_right_comm a.numer (per_second b) (per_second c)

pub fraction_total : IsTotalOrder fraction_cmp
fraction_total = record {
  antisymm = λ a b. nat_cmp_total.antisymm (a.numer * per_second b) (b.numer * per_second a);
  trans = λ a b c p q.
      let first : nat_cmp (a.numer * per_second c * per_second b) (b.numer * per_second a * per_second c) ≡ Less =
      ap (λ (n : ℕ). nat_cmp n (b.numer * per_second a * per_second c)) (swapped a c b) ∙ over a b c ∙ p in
      let second : nat_cmp (b.numer * per_second a * per_second c) (c.numer * per_second a * per_second b) ≡ Less =
      ap (λ (n : ℕ). nat_cmp n (c.numer * per_second a * per_second b)) (swapped b a c)
      ∙ ap (nat_cmp (b.numer * per_second c * per_second a)) (swapped c a b) ∙ over b c a ∙ q in
      sym (over a c b) ∙ nat_cmp_total.trans _ (b.numer * per_second a * per_second c) _ first second;
  congr = λ a b c p.
      let same : a.numer * per_second b ≡ b.numer * per_second a = equal_where_tied (a.numer * per_second b) (b.numer * per_second a) p in
      let left : a.numer * per_second c * per_second b ≡ b.numer * per_second c * per_second a =
      swapped a c b ∙ ap (λ (n : ℕ). n * per_second c) same ∙ swapped b a c in
      sym (over a c b)
      ∙ ap (λ (n : ℕ). nat_cmp n (c.numer * per_second a * per_second b)) left
      ∙ ap (nat_cmp (b.numer * per_second c * per_second a)) (swapped c a b)
      ∙ over b c a;
}

pub fraction_ties : (a b : Fraction) → fraction_eq a b ≡ eq_by_cmp fraction_cmp a b
fraction_ties a b = unsigned_ties (a.numer * per_second b) (b.numer * per_second a)

pub fraction_eq_equiv : IsEquivalence fraction_eq
fraction_eq_equiv = subst IsEquivalence (λ i a b. sym (fraction_ties a b) i) (eq_by_cmp_equiv fraction_total)

pub fraction_po : IsPartialOrder fraction_eq (λ a b. Some (fraction_cmp a b))
fraction_po = po fraction_total fraction_ties
