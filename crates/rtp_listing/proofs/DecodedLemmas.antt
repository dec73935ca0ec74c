-- The bytes of digits that follow others, and are decoded by themselves.
use Rattle.std.proofs.Common.{◌≡◌, ℕ, ◌%◌, ◌+◌, ◌≤◌, List, [], ◌∷◌, ◌++◌, length, take, drop, Result, Ok, Err, refl, sym, ap, ◌∙◌, arith}
use Rattle.std.proofs.lemmas.List.{take-append-drop, length-take-le}
use Rattle.hex.specs.Hex.{decode_of, decode_pairs, pair_value, ◌>>=◌}
use Rattle.hex.specs.declared.error.FromHexError.{FromHexError}
use Rattle.hex.proofs.HexLemmas.{decode_of-even, decode_of-ok}
use Rattle.hex.proofs.Pairs.{prepend, cons_byte, decode_pairs-ok_pair}

-- no digits are no bytes
pub decoded-nothing : decode_of [] ≡ Ok []
unfolding decode_pairs
decoded-nothing = refl

-- the byte of the first two digits, and those of the others
first_pair : (pair : Result ℕ FromHexError) (rest : Result (List ℕ) FromHexError) (bytes : List ℕ) → (pair >>= (λ byte. cons_byte byte rest)) ≡ Ok bytes
    → (byte : ℕ) × (others : List ℕ) × (pair ≡ Ok byte) × (rest ≡ Ok others) × (bytes ≡ byte ∷ others)
first_pair (Ok byte) (Ok others) bytes is = (byte, others, refl, refl, cc)
first_pair (Ok byte) (Err e) bytes is = absurd (cc)
first_pair (Err e) rest bytes is = absurd (cc)

-- a byte before others
cons-prepend : (byte : ℕ) (front : List ℕ) (r : Result (List ℕ) FromHexError) → cons_byte byte (prepend front r) ≡ prepend (byte ∷ front) r
cons-prepend byte front (Ok rest) = refl
cons-prepend byte front (Err e) = refl

prepend-nothing : (r : Result (List ℕ) FromHexError) → r ≡ prepend [] r
prepend-nothing (Ok rest) = refl
prepend-nothing (Err e) = refl

-- more digits
decode-append : (i : ℕ) (digits more front : List ℕ) → decode_pairs i digits ≡ Ok front → decode_pairs i (digits ++ more) ≡ prepend front (decode_pairs (i + length digits) more)
unfolding decode_pairs
decode-append i [] more front is =
    let none : front ≡ [] = cc in
    let here : i ≡ i + 0 = omega arith in
    prepend-nothing (decode_pairs i more) ∙ ap (λ (k : ℕ). prepend [] (decode_pairs k more)) here ∙ ap (λ (f : List ℕ). prepend f (decode_pairs (i + 0) more)) (sym none)
decode-append i (high ∷ []) more front is = absurd (cc)
decode-append i (high ∷ low ∷ rest) more front is =
    let (byte, others, pair, left, all) = first_pair (pair_value high low i) (decode_pairs (i + 2) rest) front is in
    let past : i + 2 + length rest ≡ i + length (high ∷ low ∷ rest) = omega arith in
    decode_pairs-ok_pair i high low byte (rest ++ more) pair
    ∙ ap (cons_byte byte) (decode-append (i + 2) rest more others left)
    ∙ cons-prepend byte others _
    ∙ ap (λ (f : List ℕ). prepend f (decode_pairs (i + 2 + length rest) more)) (sym all)
    ∙ ap (λ (k : ℕ). prepend front (decode_pairs k more)) past

-- all digits, where those at the front are decoded
pub decoded-behind : (digits front : List ℕ) (n : ℕ) → n ≤ length digits → n % 2 ≡ 0 → decode_of (take n digits) ≡ Ok front
    → decode_pairs 0 digits ≡ prepend front (decode_pairs n (drop n digits))
decoded-behind digits front n within even is =
    let long : 0 + length (take n digits) ≡ n = omega (arith, length-take-le n digits within) in
    let first : decode_pairs 0 (take n digits) ≡ Ok front = sym (decode_of-even (take n digits) (omega (arith, long))) ∙ is in
    ap (decode_pairs 0) (sym (take-append-drop n digits)) ∙ decode-append 0 (take n digits) (drop n digits) front first
    ∙ ap (λ (k : ℕ). prepend front (decode_pairs k (drop n digits))) long

-- what others are put behind is before them
before : (front bytes : List ℕ) (r : Result (List ℕ) FromHexError) → prepend front r ≡ Ok bytes → (rest : List ℕ) × (bytes ≡ front ++ rest)
before front bytes (Ok rest) is = (rest, cc)
before front bytes (Err e) is = absurd (cc)

-- the bytes of the digits at the front are those at the front of all bytes
pub decoded-first : (digits bytes front : List ℕ) (n : ℕ) → n ≤ length digits → n % 2 ≡ 0 → decode_of digits ≡ Ok bytes → decode_of (take n digits) ≡ Ok front
    → (rest : List ℕ) × (bytes ≡ front ++ rest)
decoded-first digits bytes front n within even all first =
    before front bytes _ (sym (decoded-behind digits front n within even first) ∙ sym (decode_of-even digits (decode_of-ok digits bytes all).0) ∙ all)
