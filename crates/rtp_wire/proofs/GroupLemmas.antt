-- Groups of four bytes, one after the other.
use Rattle.rtp_wire.proofs.Common.{◌≡◌, ℕ, zero, suc, ◌+◌, ◌*◌, ◌<◌, ◌≤◌, List, [], ◌∷◌, ◌++◌, length, map, get_or, set, take, drop, refl, sym, ap, ◌∙◌, append_assoc, length-append, length-drop, length-take, length-take-le, take_at, drop_at, take-add, arith, take_more, drop_more, append-nil, length-map, set_at, map_more, take-take, drop-take, concat, flat_map, AllByRecursion, w32, to_be_bytes, first_chunks}
use Rattle.std.proofs.lemmas.List.Concat.{flat_map-append}

-- each group has four bytes
abbrev pub AreFours : List (List ℕ) → Type 0
AreFours groups = AllByRecursion (λ group. length group ≡ 4) groups

fours : (k : ℕ) → 4 * suc k ≡ 4 + 4 * k
fours k = omega arith

pub concat-first_chunks : (k : ℕ) (xs : List ℕ) → concat (first_chunks 4 k xs) ≡ take (4 * k) xs
concat-first_chunks zero xs = refl
concat-first_chunks (suc k) xs =
    ap (λ (ys : List ℕ). take 4 xs ++ ys) (concat-first_chunks k (drop 4 xs))
    ∙ sym (take-add 4 (4 * k) xs) ∙ ap (λ (n : ℕ). take n xs) (sym (fours k))

pub length-first_chunks : (k : ℕ) (xs : List ℕ) → length (first_chunks 4 k xs) ≡ k
length-first_chunks zero xs = refl
length-first_chunks (suc k) xs = ap suc (length-first_chunks k (drop 4 xs))

pub AreFours-first_chunks : (k : ℕ) (xs : List ℕ) → 4 * k ≤ length xs → AreFours (first_chunks 4 k xs)
AreFours-first_chunks zero xs fits = tt
AreFours-first_chunks (suc k) xs fits =
    (omega (arith, length-take 4 xs), AreFours-first_chunks k (drop 4 xs) (omega (arith, length-drop 4 xs)))

pub length-concat : (groups : List (List ℕ)) → AreFours groups → length (concat groups) ≡ 4 * length groups
length-concat [] four = refl
length-concat (g ∷ gs) four = omega (arith, length-append g (concat gs), length-concat gs four.1, four.0)

pub first_chunks-concat : (groups : List (List ℕ)) (rest : List ℕ) → AreFours groups → first_chunks 4 (length groups) (concat groups ++ rest) ≡ groups
first_chunks-concat [] rest four = refl
first_chunks-concat (g ∷ gs) rest four =
    ap (λ (bytes : List ℕ). first_chunks 4 (suc (length gs)) bytes) (append_assoc g (concat gs) rest)
    ∙ rw (take_at g (concat gs ++ rest) 4 four.0, drop_at g (concat gs ++ rest) 4 four.0)
    (ap (λ (found : List (List ℕ)). g ∷ found) (first_chunks-concat gs rest four.1))

-- one group more: its number goes into the next of the slots
pub set_slot : (f : List ℕ → ℕ) (groups : List (List ℕ)) (slots old : List ℕ) (i number : ℕ) → i < length groups → i < length old
    → number ≡ f (get_or groups i []) → slots ≡ map f (take i groups) ++ drop i old
    → set slots i number ≡ map f (take (i + 1) groups) ++ drop (i + 1) old
set_slot f groups slots old i number within room is so_far =
    let front = map f (take i groups) in
    let len : length front ≡ i = length-map (take i groups) f ∙ length-take-le i groups (omega arith) in
    ap (λ (xs : List ℕ). set xs i number) (so_far ∙ ap (λ (ys : List ℕ). front ++ ys) (drop_more old i 0 room))
    ∙ set_at front (get_or old i 0) (drop (i + 1) old) number i len
    ∙ sym (append_assoc front (number ∷ []) (drop (i + 1) old))
    ∙ ap (λ (xs : List ℕ). xs ++ drop (i + 1) old)
    (ap (λ (v : ℕ). front ++ v ∷ []) is ∙ sym (map_more f groups i [] within))

-- the groups of a front are those of the whole
pub first_chunks-take : (k : ℕ) (xs : List ℕ) → first_chunks 4 k (take (4 * k) xs) ≡ first_chunks 4 k xs
first_chunks-take zero xs = refl
first_chunks-take (suc k) xs =
    ap (λ (n : ℕ). first_chunks 4 (suc k) (take n xs)) (fours k)
    ∙ rw (take-take 4 (4 + 4 * k) xs (omega arith), drop-take 4 (4 * k) xs)
    (ap (λ (groups : List (List ℕ)). take 4 xs ∷ groups) (first_chunks-take k (drop 4 xs)))

-- the bytes of one number more
pub flat_map-take_more : (f : ℕ → List ℕ) (xs : List ℕ) (i : ℕ) → i < length xs → flat_map f (take (i + 1) xs) ≡ flat_map f (take i xs) ++ f (get_or xs i 0)
flat_map-take_more f xs i within =
    ap (flat_map f) (take_more xs i 0 within) ∙ flat_map-append f (take i xs) (get_or xs i 0 ∷ [])
    ∙ ap (λ (ys : List ℕ). flat_map f (take i xs) ++ ys) (append-nil (f (get_or xs i 0)))

pub length-numbers : (xs : List ℕ) → length (flat_map (to_be_bytes w32) xs) ≡ 4 * length xs
length-numbers [] = refl
length-numbers (x ∷ xs) = omega (arith, length-append (to_be_bytes w32 x) (flat_map (to_be_bytes w32) xs), length-numbers xs)
