-- Where the first numbers end, in the map that C fills.
use Rattle.rtp_c.proofs.Common.{◌≡◌, ◌≤◌, ◌<◌, ◌+◌, ◌-◌, ℕ, List, length, take, drop, get_or, inl, inr, arith, ap, sym, ◌∙◌, subst, None, get_or-drop, get_or_past, get_or-take, length-drop, length-take, cases_lt, kind_numbered}

-- what is true of each number between two indices, as they are looked at
pub each_in : (P : ℕ → Type 0) (numbers : List ℕ) (n m i : ℕ) → n + m ≤ length numbers
    → ((k : ℕ) → k < length (take m (drop n numbers)) → P (get_or (take m (drop n numbers)) k 0)) → n ≤ i → i < n + m → P (get_or numbers i 0)
each_in P numbers n m i all each above below =
    let index : i ≡ n + (i - n) = omega arith in
    let here : i - n < m = omega arith in
    let there : get_or (take m (drop n numbers)) (i - n) 0 ≡ get_or numbers i 0 =
    get_or-take m (drop n numbers) (i - n) 0 here ∙ get_or-drop n numbers (i - n) 0 ∙ ap (λ (k : ℕ). get_or numbers k 0) (sym index) in
    subst P there (each (i - n) (omega (arith, here, length-take m (drop n numbers), length-drop n numbers)))

pub zeros_in : (numbers : List ℕ) (n m i : ℕ) → n + m ≤ length numbers
    → ((k : ℕ) → k < length (take m (drop n numbers)) → get_or (take m (drop n numbers)) k 0 ≡ 0) → n ≤ i → i < n + m → get_or numbers i 0 ≡ 0
zeros_in numbers n m i all zeros above below = each_in (λ (number : ℕ). number ≡ 0) numbers n m i all zeros above below

pub unmapped_in : (numbers : List ℕ) (n m i : ℕ) → n + m ≤ length numbers
    → ((k : ℕ) → k < length (take m (drop n numbers)) → kind_numbered (get_or (take m (drop n numbers)) k 0) ≡ None) → n ≤ i → i < n + m
    → kind_numbered (get_or numbers i 0) ≡ None
unmapped_in numbers n m i all unmapped above below = each_in (λ (number : ℕ). kind_numbered number ≡ None) numbers n m i all unmapped above below

-- the numbers past a middle are 0, and so are those of the middle
pub zeros_past : (numbers : List ℕ) (n m i : ℕ) → n + m ≡ length numbers
    → ((k : ℕ) → k < length (take m (drop n numbers)) → get_or (take m (drop n numbers)) k 0 ≡ 0) → n ≤ i → get_or numbers i 0 ≡ 0
zeros_past numbers n m i all zeros above = elim (cases_lt i (n + m)) [
  | inl here ↦ zeros_in numbers n m i (omega arith) zeros above here
  | inr past ↦ get_or_past numbers i 0 (omega (arith, past))
]
