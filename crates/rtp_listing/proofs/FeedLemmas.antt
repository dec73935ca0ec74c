-- Line feeds that are looked for in 32 bytes at once.
use Rattle.rtp_listing.proofs.Common.{◌≡◌, ◌≢◌, ℕ, suc, ◌*◌, [], ◌∷◌, ◌+◌, ◌<◌, ◌≤◌, ◌^◌, ◌%◌, inl, inr, List, length, take, drop, take_rest, length-drop, get_or, get_or-drop, ◌-◌, map, Bool, false, refl, sym, ap, ◌∙◌, arith, eqb, eqb-true, eqb-false, ne_eqb, cases_lt}
use Rattle.std.proofs.Common.{not, cond, replicate, w8}
use Rattle.std.proofs.lemmas.Simd.{bitmask_splat, none_from_empty_mask, trailing_mask_l, length-chunk, get_or-chunk, run_in_chunk_fails, run_in_chunk_stops}
use Rattle.std.specs.List.{prefix_len}
use lib.Count.{count_trailing_zeros}
use lib.Lanes.{chunk, mask_l, top, zip2}

-- no bit is set where no byte passes the test
empty_mask : (p : ℕ → Bool) (xs : List ℕ) → ((k : ℕ) → k < length xs → p (get_or xs k 0) ≡ false) → mask_l (map p xs) ≡ 0
empty_mask p [] none = refl
empty_mask p (x ∷ xs) none =
    let rest = empty_mask p xs (λ k below. none (suc k) (omega (arith, below))) in
    ap (λ (b : Bool). cond b 1 0 + 2 * mask_l (map p xs)) (none 0 (omega arith)) ∙ omega (arith, rest)

-- the bits of 32 bytes, where each line feed sets its own
abbrev bits_of : List ℕ → ℕ
bits_of bytes = mask_l (map (top 7) (zip2 (λ a b. cond (eqb a b) 255 0) bytes (replicate 32 10))) % 2 ^ 64

module _ (text : List ℕ) (front : ℕ) (room : front + 32 ≤ length text) where
  bits : bits_of (chunk front 32 text) ≡ mask_l (map (λ byte. eqb byte 10) (chunk front 32 text))
  bits = bitmask_splat w8 eqb (chunk front 32 text) 32 10 (length-chunk front 32 text room) (omega arith)

  -- none is a line feed where no bit is set
  pub none_more : bits_of (chunk front 32 text) ≡ 0 → ((k : ℕ) → k < front → get_or text k 0 ≢ 10) → (k : ℕ) → k < front + 32 → get_or text k 0 ≢ 10
  none_more zero none k below = elim (cases_lt k front) [
    | inl here ↦ none k here
    | inr there ↦ eqb-false _ 10 (none_from_empty_mask (λ byte. eqb byte 10) text front 32 0 room (sym bits ∙ zero) k (omega arith) below)
  ]

  -- and no bit is set where none is one
  pub no_bits : ((k : ℕ) → k < front + 32 → get_or text k 0 ≢ 10) → bits_of (chunk front 32 text) ≡ 0
  no_bits none =
      bits ∙ empty_mask (λ byte. eqb byte 10) (chunk front 32 text) (λ k below.
      let here : k < 32 = omega (arith, below, length-chunk front 32 text room) in
      ap (λ (byte : ℕ). eqb byte 10) (get_or-chunk front 32 text k 0 here) ∙ ne_eqb (get_or text (front + k) 0) 10 (none (front + k) (omega (arith, here))))

  module _ (before : ℕ) (before_is : before ≡ count_trailing_zeros 64 (bits_of (chunk front 32 text))) (some : bits_of (chunk front 32 text) ≢ 0) where
    counted : before ≡ prefix_len (λ byte. not (eqb byte 10)) (chunk front 32 text)
    counted =
        before_is ∙ ap (count_trailing_zeros 64) bits
        ∙ trailing_mask_l (λ byte. eqb byte 10) 64 (chunk front 32 text) (omega (arith, length-chunk front 32 text room)) (omega (arith, bits, some))

    -- and else the lowest one is that of a byte
    few : before < 32
    few = elim (cases_lt before 32) [
      | inl is ↦ is
      | inr all ↦ absurd (some (bits ∙ empty_mask (λ byte. eqb byte 10) (chunk front 32 text) (λ k below.
          let here : k < 32 = omega (arith, below, length-chunk front 32 text room) in
          ap (λ (byte : ℕ). eqb byte 10) (get_or-chunk front 32 text k 0 here)
          ∙ run_in_chunk_fails (λ byte. eqb byte 10) text front 32 before 0 room counted (front + k) (omega arith) (omega arith))))
    ]

    pub within : front + before ≤ length text
    within = omega (arith, room, few)

    -- before which is no line feed
    pub none_before : ((k : ℕ) → k < front → get_or text k 0 ≢ 10) → (k : ℕ) → k < front + before → get_or text k 0 ≢ 10
    none_before none k below = elim (cases_lt k front) [
      | inl here ↦ none k here
      | inr there ↦ eqb-false _ 10 (run_in_chunk_fails (λ byte. eqb byte 10) text front 32 before 0 room counted k (omega arith) below)
    ]

    -- and which is one
    pub feed_at : get_or text (front + before) 0 ≡ 10
    feed_at = eqb-true _ 10 (run_in_chunk_stops (λ byte. eqb byte 10) text front 32 before 0 room counted few)

-- the text behind a front
abbrev behind : List ℕ → ℕ → List ℕ
behind text front = take (length text - front) (drop front text)

-- where none of the bytes behind a front is one either, none is
pub none_behind : (text : List ℕ) (front more : ℕ) → ((k : ℕ) → k < front → get_or text k 0 ≢ 10) → ((k : ℕ) → k < more → get_or (behind text front) k 0 ≢ 10)
    → (k : ℕ) → k < front + more → get_or text k 0 ≢ 10
none_behind text front more before none k below = elim (cases_lt k front) [
  | inl here ↦ before k here
  | inr there ↦ λ is. none (k - front) (omega arith)
      (ap (λ (xs : List ℕ). get_or xs (k - front) 0) (take_rest text front) ∙ get_or-drop front text (k - front) 0 ∙ ap (λ (j : ℕ). get_or text j 0) (omega arith) ∙ is)
]

-- all bytes are at a front or behind it
pub length-behind : (text : List ℕ) (front : ℕ) → front ≤ length text → front + length (behind text front) ≡ length text
length-behind text front within = omega (arith, ap length (take_rest text front), length-drop front text)
