-- Whether the one-byte form can't carry a mapped id of the map that C fills, or the longest data of its kind, by the numbers.
use Rattle.rtp_c.proofs.Common.{◌≡◌, ◌≢◌, ℕ, zero, suc, ◌≤◌, ◌<◌, ◌+◌, List, [], ◌∷◌, length, take, drop, get_or, Bool, false, true, Option, None, Some, inl, inr, arith, refl, sym, ap, ◌∙◌, subst, le-ltb, ◌||◌, nat_lt, nat_le, nat_eq, list_any, cases_lt, ne_eqb, leb-true, ltb-false, or_parts, true_from_ne_false, false≢true, get_or-take, get_or-drop, get_or_past, length-take, longest, extension_of_kind, KnownKind, VideoLayersAllocation, Entry, Slots, items_from, entry_of_kind, is_long_item, kind_numbered, numbered_kinds, numbered_slots}
use Rattle.rtp_c.proofs.FewSlotsLemmas.{each_in}
use Rattle.rtp_c.proofs.KindNumberLemmas.{number_of_kind, number_zero, all_pass, numbered_passes}
use Rattle.rtp_c.proofs.NumberedLemmas.{slot_numbered}

pub or_false : (a b : Bool) → a ≡ false → b ≡ false → (a || b) ≡ false
or_false a b first second = ap (λ (x : Bool). x || b) first ∙ second

pub same_when_false : (a b : Bool) → (a ≡ false → b ≡ false) → (b ≡ false → a ≡ false) → a ≡ b
same_when_false false b there back = sym (there refl)
same_when_false true b there back = sym (true_from_ne_false b (λ none. false≢true (sym (back none))))

-- ---- slot by slot

IsShortAt : ℕ → Option Entry → Type 0
IsShortAt id None = Unit {0}
IsShortAt id (Some entry) = is_long_item (id, entry.extension) ≡ false

short-each : (passed : ℕ) (left : Slots) → list_any is_long_item (items_from passed left) ≡ false → (k : ℕ) → IsShortAt (passed + 1 + k) (get_or left k None)
unfolding IsShortAt
short-each passed [] none k = tt
short-each passed (None ∷ left) none zero = tt
short-each passed (None ∷ left) none (suc k) =
    let there : passed + 1 + 1 + k ≡ passed + 1 + suc k = omega arith in
    subst (λ (id : ℕ). IsShortAt id (get_or left k None)) there (short-each (passed + 1) left none k)
short-each passed (Some entry ∷ left) none zero =
    let here : passed + 1 ≡ passed + 1 + 0 = omega arith in
    subst (λ (id : ℕ). is_long_item (id, entry.extension) ≡ false) here (or_parts _ _ none).0
short-each passed (Some entry ∷ left) none (suc k) =
    let there : passed + 1 + 1 + k ≡ passed + 1 + suc k = omega arith in
    subst (λ (id : ℕ). IsShortAt id (get_or left k None)) there (short-each (passed + 1) left (or_parts _ _ none).1 k)

each-short : (passed : ℕ) (left : Slots) → ((k : ℕ) → IsShortAt (passed + 1 + k) (get_or left k None)) → list_any is_long_item (items_from passed left) ≡ false
unfolding IsShortAt
each-short passed [] each = refl
each-short passed (None ∷ left) each =
    each-short (passed + 1) left
    (λ k.
    let there : passed + 1 + suc k ≡ passed + 1 + 1 + k = omega arith in
    subst (λ (id : ℕ). IsShortAt id (get_or left k None)) there (each (suc k)))
each-short passed (Some entry ∷ left) each =
    let here : passed + 1 + 0 ≡ passed + 1 = omega arith in
    or_false _ _ (subst (λ (id : ℕ). is_long_item (id, entry.extension) ≡ false) here (each 0))
    (each-short (passed + 1) left
    (λ k.
    let there : passed + 1 + suc k ≡ passed + 1 + 1 + k = omega arith in
    subst (λ (id : ℕ). IsShortAt id (get_or left k None)) there (each (suc k))))

-- ---- number by number

all_few : all_pass (λ number kind. nat_eq number 15 || nat_le (longest (extension_of_kind kind)) 16) 0 numbered_kinds ≡ true
unfolding all_pass
all_few = refl

-- only the layer allocation has long data
low_short : (id number : ℕ) → id ≤ 14 → number ≢ 15 → IsShortAt id (entry_of_kind (kind_numbered number))
unfolding IsShortAt
low_short id number low other = of_found (kind_numbered number) refl
  where
    of_found : (found : Option KnownKind) → kind_numbered number ≡ found → IsShortAt id (entry_of_kind found)
    of_found None none = tt
    of_found (Some kind) some =
        let passes = subst (λ (b : Bool). (b || nat_le (longest (extension_of_kind kind)) 16) ≡ true) (ne_eqb number 15 other) (numbered_passes _ all_few number kind some) in
        or_false _ _ (le-ltb 14 id low) (le-ltb 16 (longest (extension_of_kind kind)) (leb-true (longest (extension_of_kind kind)) 16 passes))

slot_short : (numbers : List ℕ) (k : ℕ) → (k < 14 → get_or numbers (suc k) 0 ≢ 15) → (14 ≤ k → kind_numbered (get_or numbers (suc k) 0) ≡ None)
    → IsShortAt (suc k) (get_or (numbered_slots numbers) k None)
unfolding IsShortAt
slot_short numbers k low high = elim (cases_lt k 14) [
  | inl here ↦ subst (IsShortAt (suc k)) (sym (slot_numbered numbers k)) (low_short (suc k) (get_or numbers (suc k) 0) (omega (arith, here)) (low here))
  | inr past ↦ subst (IsShortAt (suc k)) (sym (ap entry_of_kind (high past)) ∙ sym (slot_numbered numbers k)) tt
]

-- none of the ids up to 16 has the layer allocation, and none above 14 a kind
pub HasNoLayers : List ℕ → Type 0
HasNoLayers numbers = (i : ℕ) → 1 ≤ i → i < 17 → get_or numbers i 0 ≢ 15

pub HasNoHighKind : List ℕ → Type 0
HasNoHighKind numbers = (i : ℕ) → 15 ≤ i → i < 256 → kind_numbered (get_or numbers i 0) ≡ None

-- where none is, no number in question is that of a kind that would be
no_long_number : (numbers : List ℕ) (k : ℕ) → list_any is_long_item (items_from 0 (numbered_slots numbers)) ≡ false
    → IsShortAt (suc k) (entry_of_kind (kind_numbered (get_or numbers (suc k) 0)))
no_long_number numbers k none =
    let here : 0 + 1 + k ≡ suc k = omega arith in
    subst (IsShortAt (suc k)) (slot_numbered numbers k)
    (subst (λ (id : ℕ). IsShortAt id (get_or (numbered_slots numbers) k None)) here (short-each 0 (numbered_slots numbers) none k))

pub no_layers : (numbers : List ℕ) → list_any is_long_item (items_from 0 (numbered_slots numbers)) ≡ false → HasNoLayers numbers
unfolding HasNoLayers IsShortAt
no_layers numbers none zero above below is = absurd (omega (arith, above))
no_layers numbers none (suc k) above below is =
    let layers : kind_numbered (get_or numbers (suc k) 0) ≡ Some VideoLayersAllocation = ap kind_numbered is ∙ number_of_kind VideoLayersAllocation in
    let short = subst (λ (found : Option KnownKind). IsShortAt (suc k) (entry_of_kind found)) layers (no_long_number numbers k none) in
    let wrong = (or_parts (nat_lt 14 (suc k)) true short).1 in
    cc

pub no_high_kind : (numbers : List ℕ) → list_any is_long_item (items_from 0 (numbered_slots numbers)) ≡ false → HasNoHighKind numbers
unfolding HasNoHighKind IsShortAt
no_high_kind numbers none zero above below = absurd (omega (arith, above))
no_high_kind numbers none (suc k) above below = of_found (kind_numbered (get_or numbers (suc k) 0)) (no_long_number numbers k none)
  where
    of_found : (found : Option KnownKind) → IsShortAt (suc k) (entry_of_kind found) → found ≡ None
    of_found None short = refl
    of_found (Some kind) short = absurd (omega (arith, above, ltb-false 14 (suc k) (or_parts _ _ short).0))

-- and the other way round
pub none_long : (numbers : List ℕ) → length numbers ≡ 256 → HasNoLayers numbers → HasNoHighKind numbers
    → list_any is_long_item (items_from 0 (numbered_slots numbers)) ≡ false
unfolding HasNoLayers HasNoHighKind
none_long numbers long layers high =
    each-short 0 (numbered_slots numbers)
    (λ k.
    let here : suc k ≡ 0 + 1 + k = omega arith in
    subst (λ (id : ℕ). IsShortAt id (get_or (numbered_slots numbers) k None)) here
    (slot_short numbers k (λ low. layers (suc k) (omega arith) (omega (arith, low)))
    (λ past. elim (cases_lt (suc k) 256) [
      | inl within ↦ high (suc k) (omega (arith, past)) within
      | inr outside ↦ ap kind_numbered (get_or_past numbers (suc k) 0 (omega (arith, long, outside))) ∙ number_zero
    ])))

-- a walk that ends within the slots of the one-byte form
pub few_long : (numbers : List ℕ) (end : ℕ) → end ≤ 14 → items_from 0 (take end (numbered_slots numbers)) ≡ items_from 0 (numbered_slots numbers)
    → HasNoLayers numbers → list_any is_long_item (items_from 0 (numbered_slots numbers)) ≡ false
unfolding HasNoLayers IsShortAt
few_long numbers end few all layers =
    sym (ap (list_any is_long_item) all) ∙ each-short 0 (take end (numbered_slots numbers))
    (λ k.
    let here : suc k ≡ 0 + 1 + k = omega arith in
    subst (λ (id : ℕ). IsShortAt id (get_or (take end (numbered_slots numbers)) k None)) here (at k))
  where
    at : (k : ℕ) → IsShortAt (suc k) (get_or (take end (numbered_slots numbers)) k None)
    at k = elim (cases_lt k end) [
      | inl within ↦
          subst (IsShortAt (suc k)) (sym (get_or-take end (numbered_slots numbers) k None within))
          (slot_short numbers k (λ low. layers (suc k) (omega arith) (omega (arith, low))) (λ past. absurd (omega (arith, past, within, few))))
      | inr outside ↦
          subst (IsShortAt (suc k)) (sym (get_or_past (take end (numbered_slots numbers)) k None (omega (arith, outside, length-take end (numbered_slots numbers))))) tt
    ]

-- ---- as the numbers are looked at

each_of : (P : ℕ → Type 0) (numbers : List ℕ) (n m k : ℕ) → ((i : ℕ) → n ≤ i → i < n + m → P (get_or numbers i 0)) → k < length (take m (drop n numbers))
    → P (get_or (take m (drop n numbers)) k 0)
each_of P numbers n m k each within =
    let below : k < m = omega (arith, within, length-take m (drop n numbers)) in
    subst P (sym (get_or-take m (drop n numbers) k 0 below ∙ get_or-drop n numbers k 0)) (each (n + k) (omega arith) (omega (arith, below)))

pub looked_layers : (numbers : List ℕ) → HasNoLayers numbers → (k : ℕ) → k < length (take 16 (drop 1 numbers)) → get_or (take 16 (drop 1 numbers)) k 0 ≢ 15
unfolding HasNoLayers
looked_layers numbers layers k within = each_of (λ (number : ℕ). number ≢ 15) numbers 1 16 k layers within

pub layers_looked : (numbers : List ℕ) → length numbers ≡ 256 → ((k : ℕ) → k < length (take 16 (drop 1 numbers)) → get_or (take 16 (drop 1 numbers)) k 0 ≢ 15) → HasNoLayers numbers
unfolding HasNoLayers
layers_looked numbers long looked i above below = each_in (λ (number : ℕ). number ≢ 15) numbers 1 16 i (omega (arith, long)) looked above below

pub looked_high : (numbers : List ℕ) → HasNoHighKind numbers → (k : ℕ) → k < length (take 241 (drop 15 numbers)) → kind_numbered (get_or (take 241 (drop 15 numbers)) k 0) ≡ None
unfolding HasNoHighKind
looked_high numbers high k within = each_of (λ (number : ℕ). kind_numbered number ≡ None) numbers 15 241 k high within

pub high_looked : (numbers : List ℕ) → length numbers ≡ 256 → ((k : ℕ) → k < length (take 241 (drop 15 numbers)) → kind_numbered (get_or (take 241 (drop 15 numbers)) k 0) ≡ None)
    → HasNoHighKind numbers
unfolding HasNoHighKind
high_looked numbers long looked i above below = each_in (λ (number : ℕ). kind_numbered number ≡ None) numbers 15 241 i (omega (arith, long)) looked above below
