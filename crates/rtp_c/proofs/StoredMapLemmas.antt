-- The map that C fills, as slots.
use Rattle.rtp_c.proofs.Common.{◌≡◌, ℕ, zero, suc, ◌≤◌, List, [], ◌∷◌, map, get_or, set, replicate, true, Option, Some, None, arith, refl, sym, ◌∙◌, subst, length-map, get_or-map, KnownKind, AbsoluteSendTime, AudioLevel, VideoOrientation, TransportSequenceNumber, RtpStreamId, RepairedRtpStreamId, RtpMid, ListsItems, items_from, standard_items, slots_of, ListsItems-from_slots, kind_number, IsKindNumbered, HasKinds, AreStandardNumbers}
use Rattle.rtp_c.proofs.KindNumberLemmas.{number≢0}

-- the number of a kind, and 0 for none
number_or_0 : Option KnownKind → ℕ
number_or_0 None = 0
number_or_0 (Some kind) = kind_number kind

IsKindNumbered-number : (kind : Option KnownKind) → IsKindNumbered (number_or_0 kind) kind
unfolding number_or_0
IsKindNumbered-number None = number≢0
IsKindNumbered-number (Some kind) = refl

HasKinds-numbers : (kinds : List (Option KnownKind)) → HasKinds (map number_or_0 kinds) (slots_of kinds)
unfolding number_or_0
HasKinds-numbers kinds = record {
  kinds = kinds;
  as_many = sym (length-map kinds number_or_0);
  numbered = λ i below. subst (λ (number : ℕ). IsKindNumbered number (get_or kinds i None)) (sym (at_index i)) (IsKindNumbered-number (get_or kinds i None));
  slots_are = refl;
}
  where
    at_index : (i : ℕ) → get_or (map number_or_0 kinds) i 0 ≡ number_or_0 (get_or kinds i None)
    at_index i = get_or-map number_or_0 kinds i None

-- the kinds of the usual ids, and their numbers
standard_kinds : List (Option KnownKind)
standard_kinds =
    let none : List (Option KnownKind) = replicate 256 None in
    set (set (set (set (set (set (set none 1 (Some AudioLevel)) 2 (Some AbsoluteSendTime)) 3 (Some TransportSequenceNumber)) 4 (Some RtpMid)) 10 (Some RtpStreamId)) 11 (Some RepairedRtpStreamId)) 13
    (Some VideoOrientation)

abbrev pub standard_numbers : List ℕ
standard_numbers = set (set (set (set (set (set (set (replicate 256 0) 1 3) 2 1) 3 6) 4 12) 10 10) 11 11) 13 5

numbers_are : map number_or_0 standard_kinds ≡ standard_numbers
unfolding number_or_0 standard_kinds
numbers_are = refl

items_are : items_from 0 (slots_of standard_kinds) ≡ standard_items
unfolding standard_kinds
items_are = refl

pub AreStandardNumbers-numbers : (numbers : List ℕ) → numbers ≡ standard_numbers → AreStandardNumbers numbers
AreStandardNumbers-numbers numbers is = record {
  slots = slots_of standard_kinds;
  has_kinds = subst (λ (n : List ℕ). HasKinds n (slots_of standard_kinds)) (numbers_are ∙ sym is) (HasKinds-numbers standard_kinds);
  listing = subst (ListsItems (slots_of standard_kinds) (λ _. true)) items_are (ListsItems-from_slots (slots_of standard_kinds));
}

low-zeros : (n k : ℕ) → get_or (replicate n 0) k 0 ≤ 15
low-zeros zero k = omega arith
low-zeros (suc n) zero = omega arith
low-zeros (suc n) (suc k) = low-zeros n k

low-set : (xs : List ℕ) (i v : ℕ) → v ≤ 15 → ((k : ℕ) → get_or xs k 0 ≤ 15) → (k : ℕ) → get_or (set xs i v) k 0 ≤ 15
low-set [] i v low are k = are k
low-set (x ∷ xs) zero v low are zero = low
low-set (x ∷ xs) zero v low are (suc k) = are (suc k)
low-set (x ∷ xs) (suc i) v low are zero = are zero
low-set (x ∷ xs) (suc i) v low are (suc k) = low-set xs i v low (λ (j : ℕ). are (suc j)) k

-- each of the usual numbers is that of a kind, or 0
standard-low : (id : ℕ) → get_or standard_numbers id 0 ≤ 15
standard-low id =
    let a : List ℕ = replicate 256 0 in
    let b : List ℕ = set a 1 3 in
    let c : List ℕ = set b 2 1 in
    let d : List ℕ = set c 3 6 in
    let e : List ℕ = set d 4 12 in
    let f : List ℕ = set e 10 10 in
    let g : List ℕ = set f 11 11 in
    low-set g 13 5 (omega arith) (low-set f 11 11 (omega arith) (low-set e 10 10 (omega arith) (low-set d 4 12 (omega arith)
    (low-set c 3 6 (omega arith) (low-set b 2 1 (omega arith) (low-set a 1 3 (omega arith) (low-zeros 256))))))) id

pub low-numbers : (numbers : List ℕ) → numbers ≡ standard_numbers → (id : ℕ) → get_or numbers id 0 ≤ 15
low-numbers numbers is id = subst (λ (ns : List ℕ). get_or ns id 0 ≤ 15) (sym is) (standard-low id)
