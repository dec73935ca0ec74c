-- For the prover: a list that is kept at the front of an array, with one value in the places after it.
use Rattle.std.specs.Prelude.{◌≡◌, ℕ, ◌-◌, ◌≤◌, List, ◌++◌, length, take, drop, replicate}
use Rattle.std.proofs.Common.{sym, ◌∙◌, ap}
use Rattle.std.proofs.lemmas.List.{take-append-drop, length-take-le}

-- some items, and this value for those of the places that are left
abbrev pub padded : {A : Type 0} → ℕ → A → List A → List A
padded places unused items = items ++ replicate (places - length items) unused

pub length-front : {A : Type 0} (items : List A) (count places : ℕ) → length items ≡ places → count ≤ places → length (take count items) ≡ count
length-front items count places len few = length-take-le count items (subst' len few)
  where
    subst' : length items ≡ places → count ≤ places → count ≤ length items
    subst' l f = rw l f

pub padded-front : {A : Type 0} (unused : A) (items : List A) (count places : ℕ) → length items ≡ places → count ≤ places → drop count items ≡ replicate (places - count) unused
    → padded places unused (take count items) ≡ items
padded-front unused items count places len few rest =
    ap (λ (n : ℕ). take count items ++ replicate (places - n) unused) (length-front items count places len few)
    ∙ ap (λ (left : List _). take count items ++ left) (sym rest)
    ∙ take-append-drop count items
