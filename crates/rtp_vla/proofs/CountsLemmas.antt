-- The counts of temporal layers in a number of 32 bits.
use Rattle.rtp_vla.proofs.Common.{◌≡◌, ℕ, zero, suc, ◌+◌, ◌-◌, ◌*◌, ◌/◌, ◌%◌, ◌^◌, ◌<◌, ◌≤◌, List, [], ◌∷◌, length, take, get_or, true, eqb, refl, sym, ap, ◌∙◌, arith, bit_and, take-append-le, agree_below_at, eqb-true, mod-eq_of_lt}
use Rattle.std.proofs.Math.Nat.{mul_assoc, mul-add-div_right, div-div-eq-div-mul, div-lt_iff_lt-mul}
use Rattle.std.proofs.lemmas.Nat.{pow-add, pow_pos, and_le_l, and_mod, and_block, ones_cat, div-add-mod'}
use Rattle.std.specs.Int.Count.{ones}
use Rattle.rtp_vla.specs.AllocationReading.{quarters, counts_in, rate_count}

pub length-counts_in : (n bits : ℕ) → length (counts_in n bits) ≡ n
unfolding counts_in
length-counts_in zero bits = refl
length-counts_in (suc n) bits = ap suc (length-counts_in n (bits * 4 % 4294967296))

-- the first count, and the others
pub counts_in-next : (n bits : ℕ) → 1 ≤ n → counts_in n bits ≡ bits / 1073741824 ∷ counts_in (n - 1) (bits * 4 % 4294967296)
unfolding counts_in
counts_in-next zero bits some = absurd (omega arith)
counts_in-next (suc n) bits some = let one : suc n - 1 ≡ n = omega arith in rw one refl

pub first_is : (a b : ℕ) (left others : List ℕ) → a ∷ left ≡ b ∷ others → a ≡ b
first_is a b left others is = cc

-- the counts of the highest byte, and those after them
counts_in-byte : (n a rest : ℕ) → a < 256 → rest < 16777216
    → counts_in (suc (suc (suc (suc n)))) (16777216 * a + rest) ≡ a / 64 % 4 ∷ a / 16 % 4 ∷ a / 4 % 4 ∷ a % 4 ∷ counts_in n (256 * rest)
unfolding counts_in
counts_in-byte n a rest small below =
    let b0 : (16777216 * a + rest) / 1073741824 ≡ a / 64 % 4 = omega arith in
    let n1 : (16777216 * a + rest) * 4 % 4294967296 ≡ 67108864 * (a % 64) + 4 * rest = omega arith in
    let b1 : (67108864 * (a % 64) + 4 * rest) / 1073741824 ≡ a / 16 % 4 = omega arith in
    let n2 : (67108864 * (a % 64) + 4 * rest) * 4 % 4294967296 ≡ 268435456 * (a % 16) + 16 * rest = omega arith in
    let b2 : (268435456 * (a % 16) + 16 * rest) / 1073741824 ≡ a / 4 % 4 = omega arith in
    let n3 : (268435456 * (a % 16) + 16 * rest) * 4 % 4294967296 ≡ 1073741824 * (a % 4) + 64 * rest = omega arith in
    let b3 : (1073741824 * (a % 4) + 64 * rest) / 1073741824 ≡ a % 4 = omega arith in
    let n4 : (1073741824 * (a % 4) + 64 * rest) * 4 % 4294967296 ≡ 256 * rest = omega arith in
    rw (b0, n1, b1, n2, b2, n3, b3, n4) refl

pub counts_in-none : (bits : ℕ) → counts_in 0 bits ≡ []
unfolding counts_in
counts_in-none bits = refl

-- zeros after the bytes are not among their counts
front : (bytes : List ℕ) (n : ℕ) → length bytes ≤ 4 → n ≤ 4 * length bytes
    → take n (quarters (get_or bytes 0 0 ∷ get_or bytes 1 0 ∷ get_or bytes 2 0 ∷ get_or bytes 3 0 ∷ [])) ≡ take n (quarters bytes)
front [] n few within = let no : n ≡ 0 = omega arith in rw no refl
front (a ∷ []) n few within = take-append-le n (quarters (a ∷ [])) (quarters (0 ∷ 0 ∷ 0 ∷ [])) (omega arith)
front (a ∷ b ∷ []) n few within = take-append-le n (quarters (a ∷ b ∷ [])) (quarters (0 ∷ 0 ∷ [])) (omega arith)
front (a ∷ b ∷ c ∷ []) n few within = take-append-le n (quarters (a ∷ b ∷ c ∷ [])) (quarters (0 ∷ [])) (omega arith)
front (a ∷ b ∷ c ∷ d ∷ []) n few within = refl
front (a ∷ b ∷ c ∷ d ∷ e ∷ bytes) n few within = absurd (omega arith)

-- all counts of four bytes
counts_in-quarters : (a b c d : ℕ) → a < 256 → b < 256 → c < 256 → d < 256
    → counts_in 16 (16777216 * a + 65536 * b + 256 * c + d) ≡ quarters (a ∷ b ∷ c ∷ d ∷ [])
counts_in-quarters a b c d a-small b-small c-small d-small =
    let first : 16777216 * a + 65536 * b + 256 * c + d ≡ 16777216 * a + (65536 * b + 256 * c + d) = omega arith in
    let second : 256 * (65536 * b + 256 * c + d) ≡ 16777216 * b + (65536 * c + 256 * d) = omega arith in
    let third : 256 * (65536 * c + 256 * d) ≡ 16777216 * c + 65536 * d = omega arith in
    let fourth : 256 * (65536 * d) ≡ 16777216 * d + 0 = omega arith in
    ap (counts_in 16) first ∙ counts_in-byte 12 a (65536 * b + 256 * c + d) a-small (omega arith)
    ∙ ap (λ xs. a / 64 % 4 ∷ a / 16 % 4 ∷ a / 4 % 4 ∷ a % 4 ∷ xs) (
    ap (counts_in 12) second ∙ counts_in-byte 8 b (65536 * c + 256 * d) b-small (omega arith)
    ∙ ap (λ xs. b / 64 % 4 ∷ b / 16 % 4 ∷ b / 4 % 4 ∷ b % 4 ∷ xs) (
    ap (counts_in 8) third ∙ counts_in-byte 4 c (65536 * d) c-small (omega arith)
    ∙ ap (λ xs. c / 64 % 4 ∷ c / 16 % 4 ∷ c / 4 % 4 ∷ c % 4 ∷ xs) (
    ap (counts_in 4) fourth ∙ counts_in-byte 0 d 0 d-small (omega arith) ∙ ap (λ xs. d / 64 % 4 ∷ d / 16 % 4 ∷ d / 4 % 4 ∷ d % 4 ∷ xs) (counts_in-none 0))))

-- the first counts of more
counts_in-front : (n m bits : ℕ) → n ≤ m → counts_in n bits ≡ take n (counts_in m bits)
unfolding counts_in
counts_in-front zero m bits few = refl
counts_in-front (suc n) zero bits few = absurd (omega arith)
counts_in-front (suc n) (suc m) bits few = ap (λ xs. bits / 1073741824 ∷ xs) (counts_in-front n m (bits * 4 % 4294967296) (omega arith))

-- the counts of up to four bytes, those of the first byte on top
pub counts_in-bytes : (bytes : List ℕ) (n bits : ℕ) → length bytes ≤ 4 → ((k : ℕ) → get_or bytes k 0 < 256)
    → bits ≡ 16777216 * get_or bytes 0 0 + 65536 * get_or bytes 1 0 + 256 * get_or bytes 2 0 + get_or bytes 3 0 → n ≤ 4 * length bytes
    → counts_in n bits ≡ take n (quarters bytes)
counts_in-bytes bytes n bits few small is within =
    let all : counts_in 16 bits ≡ quarters (get_or bytes 0 0 ∷ get_or bytes 1 0 ∷ get_or bytes 2 0 ∷ get_or bytes 3 0 ∷ []) =
    ap (counts_in 16) is ∙ counts_in-quarters _ _ _ _ (small 0) (small 1) (small 2) (small 3) in
    counts_in-front n 16 bits (omega arith) ∙ ap (take n) all ∙ front bytes n few within

-- ---- The sum of counts

-- the bits that are set in a number of 32 bits, where the high bit of each count weighs two
abbrev pub bits_weigh : ℕ → ℕ
bits_weigh n = ones n + ones (bit_and n 2863311530)

no_weight : bits_weigh 0 ≡ 0
unfolding ones
no_weight = refl

-- a count is what its bits weigh
count_weighs : (count : ℕ) → count < 4 → ones count + ones (bit_and count 2) ≡ count
unfolding ones
count_weighs count small = eqb-true _ _ (agree_below_at (λ n. eqb (ones n + ones (bit_and n 2)) n) (λ n. true) 4 count refl small)

-- the high bit of each count is at an odd place
high_bits : (n : ℕ) → n < 16 → 2863311530 / 2 ^ (2 * n) % 4 ≡ 2
high_bits n few = eqb-true _ _ (agree_below_at (λ k. eqb (2863311530 / 2 ^ (2 * k) % 4) 2) (λ k. true) 16 n refl few)

high_bit : (n count : ℕ) → n < 16 → count < 4 → bit_and count (2863311530 / 2 ^ (2 * n)) ≡ bit_and count 2
high_bit n count few small =
    let high = 2863311530 / 2 ^ (2 * n) in
    let whole : count % 4 ≡ count = omega arith in
    let same : bit_and count high % 4 ≡ bit_and count 2 = and_mod count high 2 ∙ (λ i. bit_and (whole i) (high_bits n few i)) in
    omega (arith, same, and_le_l count high)

-- one count more, on top of n others
count_on_top : (n count others : ℕ) → n < 16 → count < 4 → others < 2 ^ (2 * n) → bits_weigh (count * 2 ^ (2 * n) + others) ≡ count + bits_weigh others
count_on_top n count others few small below =
    let high = 2863311530 / 2 ^ (2 * n) in
    let low = 2863311530 % 2 ^ (2 * n) in
    let both : high * 2 ^ (2 * n) + low ≡ 2863311530 = div-add-mod' 2863311530 (2 ^ (2 * n)) in
    let low_small : low < 2 ^ (2 * n) = omega (arith, pow_pos (2 * n)) in
    let all : bit_and (count * 2 ^ (2 * n) + others) 2863311530 ≡ bit_and count 2 * 2 ^ (2 * n) + bit_and others low =
    ap (bit_and (count * 2 ^ (2 * n) + others)) (sym both)
    ∙ and_block (2 * n) count high others low below low_small
    ∙ ap (λ b. b * 2 ^ (2 * n) + bit_and others low) (high_bit n count few small) in
    let rest : bit_and others 2863311530 ≡ bit_and others low =
    sym (mod-eq_of_lt (omega (arith, and_le_l others 2863311530)))
    ∙ and_mod others 2863311530 (2 * n)
    ∙ ap (λ b. bit_and b low) (mod-eq_of_lt below) in
    let each : ones (bit_and (count * 2 ^ (2 * n) + others) 2863311530) ≡ ones (bit_and count 2) + ones (bit_and others low) =
    ap ones all ∙ ones_cat (2 * n) (bit_and count 2) (bit_and others low) (omega (arith, and_le_l others low)) in
    omega (arith, ones_cat (2 * n) count others below, each, ap ones rest, count_weighs count small)

-- two powers of 2 that are 2 ^ k together
powers : (i j k : ℕ) → i + j ≡ k → 2 ^ i * 2 ^ j ≡ 2 ^ k
powers i j k is = sym (pow-add 2 i j) ∙ ap (λ n. 2 ^ n) is

-- the first count is on top of the n others
first_on_top : (n bits : ℕ) → n < 16
    → bits / 2 ^ (32 - 2 * suc n) ≡ bits / 1073741824 * 2 ^ (2 * n) + bits * 4 % 4294967296 / 2 ^ (32 - 2 * n)
first_on_top n bits few =
    let p = 2 ^ (32 - 2 * suc n) in
    let count = bits / 1073741824 in
    let low = bits % 1073741824 in
    let parts : bits ≡ count * 2 ^ (2 * n) * p + low =
    sym (div-add-mod' bits 1073741824)
    ∙ ap (λ k. count * k + low) (sym (powers (2 * n) (32 - 2 * suc n) 30 (omega arith)))
    ∙ ap (λ k. k + low) (sym (mul_assoc count (2 ^ (2 * n)) p)) in
    let others : bits * 4 % 4294967296 ≡ low * 4 = omega arith in
    let fourth : low * 4 / 4 ≡ low = omega arith in
    let shifted : low * 4 / 2 ^ (32 - 2 * n) ≡ low / p =
    ap (λ k. low * 4 / k) (sym (powers 2 (32 - 2 * suc n) (32 - 2 * n) (omega arith)))
    ∙ sym (div-div-eq-div-mul (low * 4) 4 p)
    ∙ ap (λ k. k / p) fourth in
    ap (λ k. k / p) parts
    ∙ mul-add-div_right (pow_pos (32 - 2 * suc n)) (count * 2 ^ (2 * n)) low
    ∙ ap (λ k. count * 2 ^ (2 * n) + k) (sym (ap (λ k. k / 2 ^ (32 - 2 * n)) others ∙ shifted))

-- n counts have 2 * n bits
counts-small : (n bits : ℕ) → n ≤ 16 → bits < 4294967296 → bits / 2 ^ (32 - 2 * n) < 2 ^ (2 * n)
counts-small n bits few small = (div-lt_iff_lt-mul (pow_pos (32 - 2 * n))).1 (omega (arith, powers (2 * n) (32 - 2 * n) 32 (omega arith)))

-- the sum of the counts and of one for each of them
pub rate_count-bits : (n bits : ℕ) → n ≤ 16 → bits < 4294967296 → rate_count (counts_in n bits) ≡ n + bits_weigh (bits / 2 ^ (32 - 2 * n))
unfolding counts_in
rate_count-bits zero bits few small =
    let none : bits / 2 ^ (32 - 2 * 0) ≡ 0 = omega arith in
    omega (arith, no_weight, ap bits_weigh none)
rate_count-bits (suc n) bits few small =
    let others = bits * 4 % 4294967296 in
    let first : bits_weigh (bits / 2 ^ (32 - 2 * suc n)) ≡ bits / 1073741824 + bits_weigh (others / 2 ^ (32 - 2 * n)) =
    ap bits_weigh (first_on_top n bits (omega arith))
    ∙ count_on_top n (bits / 1073741824) (others / 2 ^ (32 - 2 * n)) (omega arith) (omega arith) (counts-small n others (omega arith) (omega arith)) in
    omega (arith, first, rate_count-bits n others (omega arith) (omega arith))
