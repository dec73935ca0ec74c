-- What bits tested, set and shifted are, as truth values.
use Rattle.rtp_base.proofs.Common.{◌≡◌, ◌≢◌, ◌+◌, ◌-◌, ◌*◌, ◌/◌, ◌%◌, ◌^◌, ◌<◌, ◌≤◌, nat_eq, ℕ, Bool, true, false, ◌||◌, get_or, max, bit_and, bit_or, inl, inr, refl, sym, ap, ◌∙◌, arith, one_shl, div-add-mod', pow_pos, shr_and_one, and_pow, bit_at_or, bit_at-zero, bit_at-lt, bit_at_above, bit_at_ones, bit_at_cat_low, bit_at_cat_high, bit_at_set_same, bit_at_set_other, get_or-map-range_with_len, cases_lt, cases_eq, eq-eqb, ne_eqb, or_right, bit_at, w128}
use Rattle.rtp_base.specs.Bitmap.{bits_of}

-- the truth value at an index is the bit there
pub bits_of-at : (bits k : ℕ) → k < 128 → get_or (bits_of bits) k false ≡ nat_eq (bit_at bits k) 1
unfolding bits_of
bits_of-at bits k below = get_or-map-range_with_len (λ i. nat_eq (bit_at bits i) 1) 0 128 k k false below (omega arith)

-- numbers whose bits are the same show the same
same-at : (a b j k : ℕ) → j < 128 → k < 128 → bit_at a j ≡ bit_at b k → get_or (bits_of a) j false ≡ get_or (bits_of b) k false
same-at a b j k j-below k-below same = bits_of-at a j j-below ∙ ap (λ n. nat_eq n 1) same ∙ sym (bits_of-at b k k-below)

pub set-at : (bits k : ℕ) → k < 128 → bit_at bits k ≡ 1 → get_or (bits_of bits) k false ≡ true
set-at bits k below set = bits_of-at bits k below ∙ ap (λ n. nat_eq n 1) set

pub clear-at : (bits k : ℕ) → k < 128 → bit_at bits k ≡ 0 → get_or (bits_of bits) k false ≡ false
clear-at bits k below clear = bits_of-at bits k below ∙ ap (λ n. nat_eq n 1) clear

-- ---- 1, and all ones

pub one-first : get_or (bits_of 1) 0 false ≡ true
one-first = set-at 1 0 (omega arith) refl

pub one-others : (k : ℕ) → 0 < k → k < 128 → get_or (bits_of 1) k false ≡ false
one-others k some below = clear-at 1 k below (bit_at_above 1 1 k (omega arith) (omega arith))

pub ones-at : (k : ℕ) → k < 128 → get_or (bits_of (2 ^ 128 - 1)) k false ≡ true
ones-at k below = set-at (2 ^ 128 - 1) k below (bit_at_ones 128 k below)

-- ---- a bit tested

pub shifted-test : (bits k : ℕ) → k < 128 → nat_eq (bit_and (bits / 2 ^ k) 1) 1 ≡ get_or (bits_of bits) k false
shifted-test bits k below = ap (λ n. nat_eq n 1) (shr_and_one bits k) ∙ sym (bits_of-at bits k below)

masked : (bits k : ℕ) → k < 128 → bit_and bits (1 * 2 ^ k % 2 ^ 128) ≡ bit_at bits k * 2 ^ k
masked bits k below = ap (bit_and bits) (one_shl k 128 below) ∙ and_pow bits k

pub masked-set : (bits k : ℕ) → k < 128 → bit_and bits (1 * 2 ^ k % 2 ^ 128) ≢ 0 → get_or (bits_of bits) k false ≡ true
masked-set bits k below some =
    elim (cases_lt (bit_at bits k) 1) [
      | inl none ↦ absurd (some (masked bits k below ∙ (let e : bit_at bits k ≡ 0 = omega arith in rw e (omega arith))))
      | inr one ↦ set-at bits k below (let least = bit_at-lt bits k in omega arith)
    ]

pub masked-clear : (bits k : ℕ) → k < 128 → bit_and bits (1 * 2 ^ k % 2 ^ 128) ≡ 0 → get_or (bits_of bits) k false ≡ false
masked-clear bits k below none =
    elim (cases_lt (bit_at bits k) 1) [
      | inl zero' ↦ clear-at bits k below (omega arith)
      | inr one ↦
          let is : bit_at bits k ≡ 1 = (let least = bit_at-lt bits k in omega arith) in
          let product : bit_at bits k * 2 ^ k ≡ 0 = sym (masked bits k below) ∙ none in
          let power : 1 * 2 ^ k ≡ 0 = sym (ap (λ n. n * 2 ^ k) is) ∙ product in
          absurd (let positive = pow_pos k in omega arith)
    ]

-- ---- a bit set

pub or-none : (x y : Bool) → y ≡ false → (x || y) ≡ x
or-none true y none = refl
or-none false y none = none

-- a test that holds at an index is the same with that index
pub or-already : (f : ℕ → Bool) (index k : ℕ) → f index ≡ true → f k ≡ (f k || nat_eq k index)
or-already f index k is =
    elim (cases_eq k index) [
      | inl same ↦ ap f same ∙ is ∙ sym (or_right (f k) (nat_eq k index) (eq-eqb k index same))
      | inr other ↦ sym (or-none (f k) (nat_eq k index) (ne_eqb k index other))
    ]

pub masked-set-already : (bits index k : ℕ) → index < 128 → bit_and bits (1 * 2 ^ index % 2 ^ 128) ≢ 0
    → get_or (bits_of bits) k false ≡ (get_or (bits_of bits) k false || nat_eq k index)
masked-set-already bits index k below some = or-already (λ j. get_or (bits_of bits) j false) index k (masked-set bits index below some)

pub with-at : (bits index k : ℕ) → index < 128 → k < 128
    → get_or (bits_of (bit_or bits (1 * 2 ^ index % 2 ^ 128))) k false ≡ (get_or (bits_of bits) k false || nat_eq k index)
with-at bits index k index-below below =
    elim (cases_eq k index) [
      | inl same ↦
          ap (λ j. get_or (bits_of (bit_or bits (1 * 2 ^ index % 2 ^ 128))) j false) same
          ∙ set-at (bit_or bits (1 * 2 ^ index % 2 ^ 128)) index index-below (bit_at_set_same w128 bits index index-below)
          ∙ sym (or_right (get_or (bits_of bits) k false) (nat_eq k index) (eq-eqb k index same))
      | inr other ↦
          same-at (bit_or bits (1 * 2 ^ index % 2 ^ 128)) bits k k below below (bit_at_set_other w128 bits index index-below k other)
          ∙ sym (or-none (get_or (bits_of bits) k false) (nat_eq k index) (ne_eqb k index other))
    ]

-- ---- bits shifted, and the first set

-- the bits below 128 are those of the whole number
bit_at-cut : (n k : ℕ) → k < 128 → bit_at (n % 2 ^ 128) k ≡ bit_at n k
bit_at-cut n k below = sym (bit_at_cat_low (n / 2 ^ 128) 128 (n % 2 ^ 128) k below) ∙ ap (λ m. bit_at m k) (div-add-mod' n (2 ^ 128))

bit_at_or-one : (n k : ℕ) → 0 < k → bit_at (bit_or n 1) k ≡ bit_at n k
bit_at_or-one n k some = bit_at_or n 1 k ∙ (let e : bit_at 1 k ≡ 0 = bit_at_above 1 1 k (omega arith) (omega arith) in ap (max (bit_at n k)) e ∙ omega arith)

pub moved-first : (bits by : ℕ) → get_or (bits_of (bit_or (bits * 2 ^ by % 2 ^ 128) 1)) 0 false ≡ true
moved-first bits by =
    set-at _ 0 (omega arith) (bit_at_or (bits * 2 ^ by % 2 ^ 128) 1 0 ∙ (let e : bit_at 1 0 ≡ 1 = refl in let least = bit_at-lt (bits * 2 ^ by % 2 ^ 128) 0 in omega arith))

pub moved-between : (bits by k : ℕ) → 0 < k → k < by → k < 128 → get_or (bits_of (bit_or (bits * 2 ^ by % 2 ^ 128) 1)) k false ≡ false
moved-between bits by k some before below =
    clear-at _ k below (
    bit_at_or-one (bits * 2 ^ by % 2 ^ 128) k some ∙ bit_at-cut (bits * 2 ^ by) k below
    ∙ ap (λ n. bit_at n k) (let e : bits * 2 ^ by ≡ bits * 2 ^ by + 0 = omega arith in e) ∙ bit_at_cat_low bits by 0 k before ∙ bit_at-zero k
    )

pub moved-before : (bits by k : ℕ) → 0 < by → by ≤ k → k < 128 → get_or (bits_of (bit_or (bits * 2 ^ by % 2 ^ 128) 1)) k false ≡ get_or (bits_of bits) (k - by) false
moved-before bits by k some after below =
    same-at (bit_or (bits * 2 ^ by % 2 ^ 128) 1) bits k (k - by) below (omega arith) (
    bit_at_or-one (bits * 2 ^ by % 2 ^ 128) k (omega arith) ∙ bit_at-cut (bits * 2 ^ by) k below
    ∙ ap (λ n. bit_at n k) (let e : bits * 2 ^ by ≡ bits * 2 ^ by + 0 = omega arith in e) ∙ bit_at_cat_high bits by 0 k (pow_pos by) after
    )
