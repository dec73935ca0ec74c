-- Bits in a ring of words: the numbers that share a bit, a word that is changed, and which window the words show.
use Rattle.rtp_base.proofs.Common.{◌≡◌, ◌≢◌, ◌+◌, ◌-◌, ◌*◌, ◌/◌, ◌%◌, ◌^◌, ◌<◌, ◌≤◌, ◌⊎◌, ◌↔◌, IsTrue, nat_eq, ℕ, Bool, true, false, ◌||◌, List, length, get_or, set, replicate, bit_and, bit_or, inl, inr, refl, sym, ap, ◌∙◌, arith, div-add-mod', mod_below, row_fits, add-mod_right, shr_and_one, bit_at-zero, bit_at-lt, bit_at_and, bit_at_ones, bit_at_not, bit_at_set_same, bit_at_set_other, get_or-set_same, get_or-set_other, get_or-replicate, length-set, get_or-map-range_with_len, length-map-range_with_len, fill_by_all, cases_lt, cases_eq, eq-eqb, ne_eqb, or_right, bit_at, w64, Numbers, KeepsOf, AcceptsOf}
use Rattle.rtp_base.specs.Ring.{ring_size, ring_bit, ring_bits}
use Rattle.rtp_base.proofs.BitmapLemmas.{or-none, or-already}
use Rattle.rtp_base.proofs.WindowLemmas.{AcceptsOf-low}

-- ---- numbers that share a bit

-- numbers with one remainder that are closer than the divisor are the same
one_place : (size a b : ℕ) → a ≤ b → b < a + size → a % size ≡ b % size → a ≡ b
one_place size a b low near same =
    let a-split = div-add-mod' a size in
    let b-split = div-add-mod' b size in
    elim (cases_lt (a / size) (b / size)) [
      | inl more ↦ absurd (let fits : a / size * size + size ≤ b / size * size = row_fits (a / size) size (b / size) size more (omega arith) in omega arith)
      | inr other ↦ elim (cases_lt (b / size) (a / size)) [
        | inl less ↦ absurd (let fits : b / size * size + size ≤ a / size * size = row_fits (b / size) size (a / size) size less (omega arith) in omega arith)
        | inr least ↦ let rows : a / size ≡ b / size = omega arith in let products : a / size * size ≡ b / size * size = ap (λ n. n * size) rows in omega arith
      ]
    ]

-- a number with its word at or after another's, less than a round of words away or just one
same_word : (count m n : ℕ) → 0 < count → m ≤ n → n < m + 64 * count → n / 64 % count ≡ m / 64 % count → (n / 64 ≡ m / 64) ⊎ (n / 64 ≡ m / 64 + count)
same_word count m n some low near same =
    elim (cases_lt (n / 64) (m / 64 + count)) [
      | inl before ↦ inl (sym (one_place count (m / 64) (n / 64) (omega arith) before (sym same)))
      | inr after ↦ inr (omega arith)
    ]

-- once round the ring
pub ring_bit-again : (words : List ℕ) (n : ℕ) → 0 < length words → ring_bit words (n + 64 * length words) ≡ ring_bit words n
unfolding ring_bit
ring_bit-again words n some =
    let word : (n + 64 * length words) / 64 ≡ n / 64 + length words = omega arith in
    let bit : (n + 64 * length words) % 64 ≡ n % 64 = omega arith in
    let place : (n / 64 + length words) % length words ≡ n / 64 % length words = add-mod_right (n / 64) (length words) in
    rw (word, bit, place) refl

-- ---- a word that is changed

-- a number with its bit in another word
other_word : (words : List ℕ) (at value n : ℕ) → n / 64 % length words ≢ at → ring_bit (set words at value) n ≡ ring_bit words n
unfolding ring_bit
other_word words at value n other =
    rw (length-set words at value) (ap (λ w. nat_eq (bit_at w (n % 64)) 1) (get_or-set_other words at (n / 64 % length words) value 0 other))

-- a number with its bit in this word
this_word : (words : List ℕ) (at value n : ℕ) → at < length words → n / 64 % length words ≡ at → ring_bit (set words at value) n ≡ nat_eq (bit_at value (n % 64)) 1
unfolding ring_bit
this_word words at value n within is =
    rw (length-set words at value, is) (ap (λ w. nat_eq (bit_at w (n % 64)) 1) (get_or-set_same words at value 0 within))

pub ring_bit-is : (words : List ℕ) (at n : ℕ) → at ≡ n / 64 % length words → nat_eq (bit_and (get_or words at 0 / 2 ^ (n % 64)) 1) 1 ≡ ring_bit words n
unfolding ring_bit
ring_bit-is words at n is = rw is (ap (λ b. nat_eq b 1) (shr_and_one (get_or words (n / 64 % length words) 0) (n % 64)))

-- the bits of a word, kept where the values are the same
kept_there : (words : List ℕ) (at value n : ℕ) → at < length words → n / 64 % length words ≡ at → bit_at value (n % 64) ≡ bit_at (get_or words at 0) (n % 64)
    → ring_bit (set words at value) n ≡ ring_bit words n
unfolding ring_bit
kept_there words at value n within is same =
    rw (length-set words at value, is) (ap (λ w. nat_eq (bit_at w (n % 64)) 1) (get_or-set_same words at value 0 within) ∙ ap (λ b. nat_eq b 1) same)

-- ---- a bit set

-- numbers less than a round apart that share a bit are the same
same_bit : (count m n : ℕ) → 0 < count → n < m + 64 * count → m < n + 64 * count → n / 64 % count ≡ m / 64 % count → n % 64 ≡ m % 64 → n ≡ m
same_bit count m n some above below word bit =
    elim (cases_lt n m) [
      | inl before ↦ elim (same_word count n m some (omega arith) below (sym word)) [ inl same ↦ omega arith | inr round ↦ absurd (omega arith) ]
      | inr after ↦ elim (same_word count m n some after above word) [ inl same ↦ omega arith | inr round ↦ absurd (omega arith) ]
    ]

pub ring_bit-set : (words : List ℕ) (at m n : ℕ) → at ≡ m / 64 % length words → at < length words
    → n < m + 64 * length words → m < n + 64 * length words
    → ring_bit (set words at (bit_or (get_or words at 0) (1 * 2 ^ (m % 64) % 2 ^ 64))) n ≡ (ring_bit words n || nat_eq n m)
ring_bit-set words at m n is within above below =
    let value = bit_or (get_or words at 0) (1 * 2 ^ (m % 64) % 2 ^ 64) in
    elim (cases_eq n m) [
      | inl same ↦
          this_word words at value n within (rw same (sym is))
          ∙ ap (λ b. nat_eq b 1) (ap (λ k. bit_at value (k % 64)) same ∙ bit_at_set_same w64 (get_or words at 0) (m % 64) (omega arith))
          ∙ sym (or_right (ring_bit words n) (nat_eq n m) (eq-eqb n m same))
      | inr other ↦
          elim (cases_eq (n / 64 % length words) at) [
            | inl word ↦ kept_there words at value n within word (bit_at_set_other w64 (get_or words at 0) (m % 64) (omega arith) (n % 64)
                (λ bit. other (same_bit (length words) m n (omega arith) above below (word ∙ is) bit)))
            | inr word ↦ other_word words at value n word
          ]
          ∙ sym (or-none (ring_bit words n) (nat_eq n m) (ne_eqb n m other))
    ]

-- ---- bits cleared

pub ring_bit-cleared : (words : List ℕ) (at m count mask n : ℕ) → at ≡ m / 64 % length words → at < length words → m % 64 + count ≤ 64 → mask < 2 ^ 64
    → ((k : ℕ) → m % 64 ≤ k → k < m % 64 + count → bit_at mask k ≡ 1) → m ≤ n → n < m + count
    → ring_bit (set words at (bit_and (get_or words at 0) (2 ^ 64 - 1 - mask))) n ≡ false
ring_bit-cleared words at m count mask n is within one_word fits inside low high =
    let word : n / 64 ≡ m / 64 = omega arith in
    let value = bit_and (get_or words at 0) (2 ^ 64 - 1 - mask) in
    let none : bit_at value (n % 64) ≡ 0 =
    bit_at_and (get_or words at 0) (2 ^ 64 - 1 - mask) (n % 64)
    ∙ rw (bit_at_not w64 mask (n % 64) fits (omega arith), inside (n % 64) (omega arith) (omega arith)) (omega arith)
    in
    this_word words at value n within (ap (λ w. w % length words) word ∙ sym is) ∙ ap (λ b. nat_eq b 1) none

pub ring_bit-others : (words : List ℕ) (at m count mask n : ℕ) → at ≡ m / 64 % length words → at < length words → m % 64 + count ≤ 64 → mask < 2 ^ 64
    → ((k : ℕ) → k < m % 64 → bit_at mask k ≡ 0) → ((k : ℕ) → m % 64 + count ≤ k → bit_at mask k ≡ 0) → m + count ≤ n → n < m + 64 * length words
    → ring_bit (set words at (bit_and (get_or words at 0) (2 ^ 64 - 1 - mask))) n ≡ ring_bit words n
ring_bit-others words at m count mask n is within one_word fits before after low high =
    let value = bit_and (get_or words at 0) (2 ^ 64 - 1 - mask) in
    elim (cases_eq (n / 64 % length words) at) [
      | inl word ↦
          let none : bit_at mask (n % 64) ≡ 0 =
          elim (same_word (length words) m n (omega arith) (omega arith) high (word ∙ is)) [
            | inl same ↦ after (n % 64) (omega arith)
            | inr round ↦ before (n % 64) (omega arith)
          ]
          in
          kept_there words at value n within word (
          bit_at_and (get_or words at 0) (2 ^ 64 - 1 - mask) (n % 64)
          ∙ rw (bit_at_not w64 mask (n % 64) fits (omega arith), none) (let least = bit_at-lt (get_or words at 0) (n % 64) in omega arith)
          )
      | inr word ↦ other_word words at value n word
    ]

-- a number before those that were cleared, where they were less than a round
pub cleared-before : (old new : List ℕ) (number count n : ℕ) → 0 < length old → length new ≡ length old
    → ((m : ℕ) → number + count ≤ m → m < number + 64 * length old → ring_bit new m ≡ ring_bit old m)
    → n < number → number + count ≤ n + 64 * length old → ring_bit new n ≡ ring_bit old n
cleared-before old new number count n some same others before near =
    sym (ring_bit-again new n (omega arith))
    ∙ ap (ring_bit new) (let e : n + 64 * length new ≡ n + 64 * length old = omega arith in e)
    ∙ others (n + 64 * length old) near (omega arith)
    ∙ ring_bit-again old n some

-- ---- all words the same

pub ring_bit-zeros : (words : List ℕ) (n : ℕ) → 0 < length words → words ≡ replicate (length words) 0 → ring_bit words n ≡ false
unfolding ring_bit
ring_bit-zeros words n some is =
    let at : n / 64 % length words < length words = mod_below (n / 64) (length words) some in
    let zero' : get_or words (n / 64 % length words) 0 ≡ 0 = ap (λ w. get_or w (n / 64 % length words) 0) is ∙ get_or-replicate (length words) (n / 64 % length words) 0 0 at in
    ap (λ w. nat_eq (bit_at w (n % 64)) 1) zero' ∙ ap (λ b. nat_eq b 1) (bit_at-zero (n % 64))

pub ring_bit-ones : (words : List ℕ) (n : ℕ) → 0 < length words → words ≡ replicate (length words) (2 ^ 64 - 1) → ring_bit words n ≡ true
unfolding ring_bit
ring_bit-ones words n some is =
    let at : n / 64 % length words < length words = mod_below (n / 64) (length words) some in
    let ones : get_or words (n / 64 % length words) 0 ≡ 2 ^ 64 - 1 = ap (λ w. get_or w (n / 64 % length words) 0) is ∙ get_or-replicate (length words) (n / 64 % length words) (2 ^ 64 - 1) 0 at in
    ap (λ w. nat_eq (bit_at w (n % 64)) 1) ones ∙ ap (λ b. nat_eq b 1) (bit_at_ones 64 (n % 64) (omega arith))

-- ---- the state that the words show

pub ring_bits-at : (words : List ℕ) (greatest k : ℕ) → k < 64 * length words → get_or (ring_bits words greatest) k false ≡ ring_bit words (greatest + 64 * length words - k)
unfolding ring_bits
ring_bits-at words greatest k below = get_or-map-range_with_len (λ i. ring_bit words (greatest + ring_size words - i)) 0 (64 * length words) k k false below (omega arith)

pub ring_bits-near : (words : List ℕ) (greatest k : ℕ) → k < 64 * length words → k ≤ greatest → get_or (ring_bits words greatest) k false ≡ ring_bit words (greatest - k)
ring_bits-near words greatest k below near =
    ring_bits-at words greatest k below
    ∙ ap (ring_bit words) (let e : greatest + 64 * length words - k ≡ greatest - k + 64 * length words = omega arith in e)
    ∙ ring_bit-again words (greatest - k) (omega arith)

-- ---- an advance: the numbers between are cleared, and then the number is set

pub advanced-first : (mid new : List ℕ) (number : ℕ) → 0 < length mid → length new ≡ length mid
    → ((n : ℕ) → n < number + 64 * length mid → number < n + 64 * length mid → ring_bit new n ≡ (ring_bit mid n || nat_eq n number))
    → get_or (ring_bits new number) 0 false ≡ true
advanced-first mid new number some same recorded =
    ring_bits-near new number 0 (omega arith) (omega arith)
    ∙ ap (ring_bit new) (let e : number - 0 ≡ number = omega arith in e)
    ∙ recorded number (omega arith) (omega arith) ∙ or_right (ring_bit mid number) (nat_eq number number) (eq-eqb number number refl)

pub advanced-between : (mid new : List ℕ) (greatest number k : ℕ) → length new ≡ length mid
    → ((n : ℕ) → n < number + 64 * length mid → number < n + 64 * length mid → ring_bit new n ≡ (ring_bit mid n || nat_eq n number))
    → ((n : ℕ) → greatest + 1 ≤ n → n < number → ring_bit mid n ≡ false)
    → 0 < k → k < number - greatest → k < 64 * length mid → get_or (ring_bits new number) k false ≡ false
advanced-between mid new greatest number k same recorded cleared some before below =
    ring_bits-near new number k (omega arith) (omega arith)
    ∙ recorded (number - k) (omega arith) (omega arith)
    ∙ or-none (ring_bit mid (number - k)) (nat_eq (number - k) number) (ne_eqb (number - k) number (λ e. omega arith))
    ∙ cleared (number - k) (omega arith) (omega arith)

pub advanced-before : (old mid new : List ℕ) (greatest number k : ℕ) → greatest < number → length mid ≡ length old → length new ≡ length old
    → ((n : ℕ) → n < number + 64 * length mid → number < n + 64 * length mid → ring_bit new n ≡ (ring_bit mid n || nat_eq n number))
    → ((n : ℕ) → number ≤ n → n < greatest + 1 + 64 * length old → ring_bit mid n ≡ ring_bit old n)
    → number - greatest ≤ k → k < 64 * length old → get_or (ring_bits new number) k false ≡ get_or (ring_bits old greatest) (k - (number - greatest)) false
advanced-before old mid new greatest number k more mid-len new-len recorded kept after below =
    let n = number + 64 * length old - k in
    ring_bits-at new number k (omega arith)
    ∙ ap (ring_bit new) (let e : number + 64 * length new - k ≡ n = omega arith in e)
    ∙ recorded n (omega arith) (omega arith)
    ∙ or-none (ring_bit mid n) (nat_eq n number) (ne_eqb n number (λ e. omega arith))
    ∙ kept n (omega arith) (omega arith)
    ∙ ap (ring_bit old) (let e : n ≡ greatest + 64 * length old - (k - (number - greatest)) = omega arith in e)
    ∙ sym (ring_bits-at old greatest (k - (number - greatest)) (omega arith))

-- ---- words that are made

pub started-others : (mid new : List ℕ) (number k : ℕ) → length new ≡ length mid → mid ≡ replicate (length mid) 0
    → ((n : ℕ) → n < number + 64 * length mid → number < n + 64 * length mid → ring_bit new n ≡ (ring_bit mid n || nat_eq n number))
    → 0 < k → k < 64 * length mid → get_or (ring_bits new number) k false ≡ false
started-others mid new number k same zeros recorded some below =
    let n = number + 64 * length mid - k in
    ring_bits-at new number k (omega arith)
    ∙ ap (ring_bit new) (let e : number + 64 * length new - k ≡ n = omega arith in e)
    ∙ recorded n (omega arith) (omega arith)
    ∙ or-none (ring_bit mid n) (nat_eq n number) (ne_eqb n number (λ e. omega arith))
    ∙ ring_bit-zeros mid n (omega arith) zeros

pub full-at : (words : List ℕ) (greatest k : ℕ) → words ≡ replicate (length words) (2 ^ 64 - 1) → k < 64 * length words → get_or (ring_bits words greatest) k false ≡ true
full-at words greatest k ones below = ring_bits-at words greatest k below ∙ ring_bit-ones words (greatest + 64 * length words - k) (omega arith) ones

-- ---- a number set at or below the greatest

pub set-shown : (old new : List ℕ) (greatest number k : ℕ) → length new ≡ length old → number ≤ greatest → greatest < number + 64 * length old
    → ((n : ℕ) → n < number + 64 * length old → number < n + 64 * length old → ring_bit new n ≡ (ring_bit old n || nat_eq n number))
    → k < 64 * length old → get_or (ring_bits new greatest) k false ≡ (get_or (ring_bits old greatest) k false || nat_eq k (greatest - number))
set-shown old new greatest number k same low near recorded below =
    elim (cases_lt (greatest - number) k) [
      | inl past ↦
          let n = greatest + 64 * length old - k in
          ring_bits-at new greatest k (omega arith)
          ∙ ap (ring_bit new) (let e : greatest + 64 * length new - k ≡ n = omega arith in e)
          ∙ recorded n (omega arith) (omega arith)
          ∙ or-none (ring_bit old n) (nat_eq n number) (ne_eqb n number (λ e. omega arith))
          ∙ sym (ring_bits-at old greatest k below)
          ∙ sym (or-none (get_or (ring_bits old greatest) k false) (nat_eq k (greatest - number)) (ne_eqb k (greatest - number) (λ e. omega arith)))
      | inr upto ↦
          ring_bits-near new greatest k (omega arith) (omega arith)
          ∙ recorded (greatest - k) (omega arith) (omega arith)
          ∙ ap (λ b. b || nat_eq (greatest - k) number) (sym (ring_bits-near old greatest k below (omega arith)))
          ∙ ap (λ b. get_or (ring_bits old greatest) k false || b) (elim (cases_eq k (greatest - number)) [
            | inl is ↦ eq-eqb (greatest - k) number (omega arith) ∙ sym (eq-eqb k (greatest - number) is)
            | inr other ↦ ne_eqb (greatest - k) number (λ e. other (omega arith)) ∙ sym (ne_eqb k (greatest - number) other)
          ])
    ]

pub restored-shown : (old new : List ℕ) (greatest k : ℕ) → length new ≡ length old
    → ((n : ℕ) → n < greatest + 64 * length old → greatest < n + 64 * length old → ring_bit new n ≡ (ring_bit old n || nat_eq n greatest))
    → k < 64 * length old → get_or (ring_bits new greatest) k false ≡ (get_or (ring_bits old greatest) k false || nat_eq k 0)
restored-shown old new greatest k same recorded below =
    set-shown old new greatest greatest k same (omega arith) (omega arith) recorded below
    ∙ ap (λ n. get_or (ring_bits old greatest) k false || nat_eq k n) (omega arith)

-- where the greatest number was recorded, the window is as it was
pub restored-same : (old new : List ℕ) (greatest : ℕ) → length new ≡ length old
    → ((k : ℕ) → k < 64 * length old → get_or (ring_bits new greatest) k false ≡ (get_or (ring_bits old greatest) k false || nat_eq k 0))
    → get_or (ring_bits old greatest) 0 false ≡ true → ring_bits new greatest ≡ ring_bits old greatest
unfolding ring_bits
restored-same old new greatest same recorded first =
    fill_by_all (λ i. ring_bit old (greatest + ring_size old - i)) (ring_bits new greatest) (64 * length old) false
    (length-map-range_with_len (λ i. ring_bit new (greatest + ring_size new - i)) 0 (ring_size new) ∙ ap (λ n. 64 * n) same)
    (λ k below.
    recorded k below
    ∙ sym (or-already (λ j. get_or (ring_bits old greatest) j false) 0 k first)
    ∙ get_or-map-range_with_len (λ i. ring_bit old (greatest + ring_size old - i)) 0 (64 * length old) k k false below (omega arith)
    )

-- ---- which set the words keep

ring_bit-taken : (words : List ℕ) (greatest : ℕ) (taken : Numbers) (number : ℕ) → KeepsOf (64 * length words) (record { greatest = greatest; recorded = ring_bits words greatest }) taken
    → number ≤ greatest → greatest < number + 64 * length words → ring_bit words number ≡ taken number
ring_bit-taken words greatest taken number keeps low near =
    ap (ring_bit words) (let e : number ≡ greatest - (greatest - number) = omega arith in e)
    ∙ sym (ring_bits-near words greatest (greatest - number) (omega arith) (omega arith))
    ∙ keeps.recorded number low near

pub accepts-low : (words : List ℕ) (greatest : ℕ) (taken : Numbers) (number : ℕ) (outcome : Bool)
    → number ≤ greatest → IsTrue outcome ↔ ((greatest < number + 64 * length words) × (ring_bit words number ≡ false))
    → KeepsOf (64 * length words) (record { greatest = greatest; recorded = ring_bits words greatest }) taken
    → IsTrue outcome ↔ AcceptsOf (64 * length words) taken number
accepts-low words greatest taken number outcome low is keeps =
    let accepted = AcceptsOf-low (64 * length words) greatest taken number keeps.top low in (
      λ yes. let parts = is.0 yes in accepted.1 (parts.0, sym (ring_bit-taken words greatest taken number keeps low parts.0) ∙ parts.1),
      λ yes. let parts = accepted.0 yes in is.1 (parts.0, ring_bit-taken words greatest taken number keeps low parts.0 ∙ parts.1),
    )
