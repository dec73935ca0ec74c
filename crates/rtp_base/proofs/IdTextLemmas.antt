-- The text of an id, by the bytes of UTF-8.
use Rattle.rtp_base.proofs.Common.{◌≡◌, ℕ, ◌+◌, ◌/◌, ◌<◌, ◌≤◌, ◌⊎◌, Bool, true, false, ◌||◌, ltb, leb, List, [], ◌∷◌, ◌++◌, length, map, filter, take, drop, get_or, refl, sym, ap, ◌∙◌, inl, inr, arith, length-take-le, take_at, IsUtf8, chars, IsAscii, cases_lt, lt-ltb, le-ltb, le-leb, lt-leb, nat_tests, map-append, length-map, take-append-drop, take_all, filter-append, chars-encodes, chars-IsAscii, id_char, id_text}
use lib.Utf8.{encode, encodes, next}

-- a byte of UTF-8 begins a character
abbrev pub begins : ℕ → Bool
begins b = ltb b 128 || leb 192 b

-- what an id has for the characters that begin in the bytes
abbrev pub kept : List ℕ → List ℕ
kept bytes = map id_char (filter begins bytes)

id_char-high : (c : ℕ) → 128 ≤ c → id_char c ≡ 95
id_char-high c high = grind (arith, nat_tests)

begins-low : (b : ℕ) → b < 128 → begins b ≡ true
begins-low b low = rw (lt-ltb b 128 low) refl

begins-lead : (b : ℕ) → 192 ≤ b → begins b ≡ true
begins-lead b lead = rw (le-ltb b 128 (omega arith), le-leb 192 b lead) refl

begins-next : (bits : ℕ) → begins (next bits) ≡ false
begins-next bits = rw (le-ltb (next bits) 128 (omega arith), lt-leb 192 (next bits) (omega arith)) refl

-- each character has one byte that begins it
kept-encode : (c : ℕ) → kept (encode c) ≡ id_char c ∷ []
unfolding encode
kept-encode c =
    elim (cases_lt c 128) [
      | inl low ↦ rw (lt-ltb c 128 low, begins-low c low) refl
      | inr high ↦ elim (cases_lt c 2048) [
        | inl two ↦ rw (le-ltb c 128 high, lt-ltb c 2048 two, begins-lead (192 + c / 64) (omega arith), begins-next c, id_char-high (192 + c / 64) (omega arith), id_char-high c high) refl
        | inr more ↦ elim (cases_lt c 65536) [
          | inl three ↦ rw (le-ltb c 128 high, le-ltb c 2048 more, lt-ltb c 65536 three, begins-lead (224 + c / 4096) (omega arith), begins-next (c / 64), begins-next c, id_char-high (224 + c / 4096) (omega arith), id_char-high c high) refl
          | inr four ↦ rw (le-ltb c 128 high, le-ltb c 2048 more, le-ltb c 65536 four, begins-lead (240 + c / 262144) (omega arith), begins-next (c / 4096), begins-next (c / 64), begins-next c, id_char-high (240 + c / 262144) (omega arith), id_char-high c high) refl
        ]
      ]
    ]

kept-append : (xs ys : List ℕ) → kept (xs ++ ys) ≡ kept xs ++ kept ys
kept-append xs ys = ap (map id_char) (filter-append begins xs ys) ∙ map-append id_char (filter begins xs) (filter begins ys)

kept-encodes : (cs : List ℕ) → kept (encodes cs) ≡ map id_char cs
kept-encodes [] = refl
kept-encodes (c ∷ cs) =
    kept-append (encode c) (encodes cs) ∙ ap (λ (xs : List ℕ). xs ++ kept (encodes cs)) (kept-encode c) ∙ ap (λ (xs : List ℕ). id_char c ∷ xs) (kept-encodes cs)

pub kept-chars : (text : List ℕ) → IsUtf8 text → kept text ≡ map id_char (chars text)
kept-chars text (cs, (fits, spelled)) =
    ap kept (sym spelled) ∙ kept-encodes cs ∙ ap (map id_char) (sym (chars-encodes cs fits)) ∙ ap (λ (bytes : List ℕ). map id_char (chars bytes)) spelled

-- the front of the room has what an id has for the bytes so far, and the rest is as it was
pub record KeptSoFar (text old room : List ℕ) (len done : ℕ) : Type 0 where
  pub front : take len room ≡ kept (take done text)
  pub rest : drop len room ≡ drop len old
  pub within : len ≤ length room

-- the room is full, or the text is at its end
pub KeptSoFar-all : (text old room : List ℕ) (len done : ℕ) → IsUtf8 text → (len ≡ length room) ⊎ (length text ≤ done)
    → KeptSoFar text old room len done → take len room ≡ id_text (length room) text
KeptSoFar-all text old room len done utf8 (inl full) so_far =
    let front = take done text in
    let all : kept text ≡ kept front ++ kept (drop done text) =
    ap kept (sym (take-append-drop done text)) ∙ kept-append front (drop done text) in
    let long : length (kept front) ≡ length room = sym (ap length so_far.front) ∙ length-take-le len room so_far.within ∙ full in
    so_far.front
    ∙ sym (take_at (kept front) (kept (drop done text)) (length room) long)
    ∙ ap (take (length room)) (sym all ∙ kept-chars text utf8)
KeptSoFar-all text old room len done utf8 (inr end) so_far =
    let all : kept (take done text) ≡ kept text = ap kept (take_all done text end) in
    let short : length (kept text) ≤ length room =
    let len-is : length (kept text) ≡ len = sym (ap length (so_far.front ∙ all)) ∙ length-take-le len room so_far.within in
    let within = so_far.within in omega arith in
    so_far.front ∙ all ∙ sym (take_all (length room) (kept text) short) ∙ ap (take (length room)) (kept-chars text utf8)

-- ---- text that is ASCII

-- the front of the room has what an id has for the bytes so far, which are ASCII, and the rest is as it was
pub record AsciiSoFar (text old room : List ℕ) (done : ℕ) : Type 0 where
  pub front : take done room ≡ map id_char (take done text)
  pub rest : drop done room ≡ drop done old
  pub low : (k : ℕ) → k < done → get_or text k 0 < 128

pub id_text-ascii : (size : ℕ) (text : List ℕ) → IsAscii text → length text ≤ size → id_text size text ≡ map id_char text
id_text-ascii size text ascii fits =
    ap (λ (cs : List ℕ). take size (map id_char cs)) (chars-IsAscii text ascii) ∙ take_all size (map id_char text) (omega (arith, length-map text id_char))
