-- A walk over the slots of a map up to the highest mapped id.
use Rattle.rtp_ext.proofs.Common.{◌≡◌, ◌⊎◌, inl, inr, ℕ, zero, suc, ◌+◌, ◌<◌, ◌≤◌, [], ◌∷◌, length, take, get_or, Bool, true, false, Option, Some, None, arith, refl, sym, ap, ◌∙◌, ◌||◌, nat_lt, lt-ltb, le-ltb, list_any, option_map, cases_eq, cases_lt, get_or_default, is_some, Entry, Slots, IsEmpty, entry_at, locked, items_from, HasNoIdAbove, IsMapped, IsLastId, Puts, Swaps}
use Rattle.rtp_ext.proofs.ListingLemmas.{items_from-empty}
use Rattle.rtp_ext.proofs.MapLemmas.{entry_at-slot}

-- slots that are empty from an index on
items_from-front : (n passed : ℕ) (left : Slots) → ((i : ℕ) → n ≤ i → get_or left i None ≡ None) → items_from passed (take n left) ≡ items_from passed left
items_from-front zero passed left none = sym (items_from-empty passed left (λ k. none k (omega arith)))
items_from-front (suc n) passed [] none = refl
items_from-front (suc n) passed (None ∷ left) none = items_from-front n (passed + 1) left (λ i above. none (suc i) (omega arith))
items_from-front (suc n) passed (Some entry ∷ left) none =
    ap (λ items. (passed + 1, entry.extension) ∷ items) (items_from-front n (passed + 1) left (λ i above. none (suc i) (omega arith)))

-- a walk that ends at the last mapped id has all of them
pub walk-all : (slots : Slots) (end : ℕ) → HasNoIdAbove end slots → items_from 0 (take end slots) ≡ items_from 0 slots
walk-all slots end none = items_from-front end 0 slots (λ i above. none (suc i) (omega arith))

-- ---- the highest mapped id

pub IsLastId-none : (slots : Slots) → IsEmpty slots → IsLastId slots 0
IsLastId-none slots empty = record { none_above = λ id above. empty id; mapped = λ some. absurd (omega (arith, some)) }

pub IsEmpty-last : {slots : Slots} {last : ℕ} → IsLastId slots last → last ≡ 0 → IsEmpty slots
IsEmpty-last is none zero = refl
IsEmpty-last is none (suc k) = is.none_above (suc k) (omega (arith, none))

pub last-IsEmpty : {slots : Slots} (last : ℕ) → IsLastId slots last → IsEmpty slots → last ≡ 0
last-IsEmpty zero is empty = refl
last-IsEmpty (suc k) is empty =
    let mapped = is.mapped (omega arith) in
    let wrong : Some mapped.0 ≡ None = sym mapped.1 ∙ empty (suc k) in
    cc

-- the id gets an entry
pub IsLastId-put : {old new : Slots} {last : ℕ} (after : ℕ) {id : ℕ} (entry : Entry) → IsLastId old last → Puts old new id (Some entry)
    → last ≤ after → id ≤ after → (after ≡ last) ⊎ (after ≡ id) → IsLastId new after
IsLastId-put {old} {new} after {id} entry is puts low here one = record {
  none_above = λ k above. puts.others k (λ same. omega (arith, above, same, here)) ∙ is.none_above k (omega (arith, above, low));
  mapped = λ some. elim (cases_eq after id) [
    | inl this ↦ (entry, ap (entry_at new) this ∙ puts.this)
    | inr other ↦ elim one [
      | inl before ↦
          let was = is.mapped (omega (arith, some, before)) in
          (was.0, puts.others after other ∙ ap (entry_at old) before ∙ was.1)
      | inr this ↦ absurd (other this)
    ]
  ];
}

-- two entries are put in each other's place
pub HasNoIdAbove-swapped : {old new : Slots} (last highest : ℕ) {from to : ℕ} → HasNoIdAbove last old → Swaps old new from to
    → last ≤ highest → from ≤ highest → to ≤ highest → HasNoIdAbove highest new
HasNoIdAbove-swapped last highest none swaps low first second id above =
    swaps.others id (λ same. omega (arith, above, same, first)) (λ same. omega (arith, above, same, second)) ∙ none id (omega (arith, above, low))

-- an entry is locked
pub IsLastId-locked : {old new : Slots} {last id : ℕ} → IsLastId old last
    → Puts old new id (option_map (λ entry. locked entry.extension) (entry_at old id)) → IsLastId new last
IsLastId-locked {old} {new} {last} {id} is puts = record {
  none_above = λ k above. elim (cases_eq k id) [
    | inl this ↦
        ap (entry_at new) this ∙ puts.this
        ∙ ap (option_map (λ entry. locked entry.extension)) (ap (entry_at old) (sym this) ∙ is.none_above k above)
    | inr other ↦ puts.others k other ∙ is.none_above k above
  ];
  mapped = λ some.
      let was = is.mapped some in
      elim (cases_eq last id) [
        | inl this ↦ (
          locked was.0.extension,
          ap (entry_at new) this ∙ puts.this
              ∙ ap (option_map (λ entry. locked entry.extension)) (ap (entry_at old) (sym this) ∙ was.1),
        )
        | inr other ↦ (was.0, puts.others last other ∙ was.1)
      ];
}

-- the slot of an id that has an entry, as it is read
pub IsMapped-slot : (slots : Slots) (id index : ℕ) {slot : Option Entry} → index + 1 ≡ id → index < length slots → slot ≡ get_or slots index slot
    → is_some slot ≡ true → IsMapped slots id
IsMapped-slot slots id index {slot} next within read some =
    let entry = found slot some in
    (entry.0, entry_at-slot slots index id next ∙ get_or_default slots index None slot within ∙ sym read ∙ entry.1)
  where
    found : (slot : Option Entry) → is_some slot ≡ true → (entry : Entry) × (slot ≡ Some entry)
    found None none = cc
    found (Some entry) there = (entry, refl)

-- whether an id is above 14, where some slots stand before these
abbrev pub has_above : ℕ → Slots → Bool
has_above passed left = list_any (λ item. nat_lt 14 item.0) (items_from passed left)

none_above : (passed : ℕ) (left : Slots) → ((k : ℕ) → 14 < passed + k + 1 → get_or left k None ≡ None) → has_above passed left ≡ false
none_above passed [] none = refl
none_above passed (None ∷ left) none = none_above (passed + 1) left (λ k above. none (suc k) (omega (arith, above)))
none_above passed (Some entry ∷ left) none = elim (cases_lt 14 (passed + 1)) [
  | inl high ↦ let wrong = none 0 (omega (arith, high)) in cc
  | inr low ↦
      ap (λ (b : Bool). b || has_above (passed + 1) left) (le-ltb 14 (passed + 1) low)
      ∙ none_above (passed + 1) left (λ k above. none (suc k) (omega (arith, above)))
]

or_true : (b : Bool) → (b || true) ≡ true
or_true true = refl
or_true false = refl

some_above : (passed : ℕ) (left : Slots) (k : ℕ) (entry : Entry) → get_or left k None ≡ Some entry → 14 < passed + k + 1 → has_above passed left ≡ true
some_above passed [] k entry is high = cc
some_above passed (None ∷ left) zero entry is high = cc
some_above passed (None ∷ left) (suc k) entry is high = some_above (passed + 1) left k entry is (omega (arith, high))
some_above passed (Some first ∷ left) zero entry is high = ap (λ (b : Bool). b || has_above (passed + 1) left) (lt-ltb 14 (passed + 1) (omega (arith, high)))
some_above passed (Some first ∷ left) (suc k) entry is high =
    ap (λ (b : Bool). nat_lt 14 (passed + 1) || b) (some_above (passed + 1) left k entry is (omega (arith, high))) ∙ or_true (nat_lt 14 (passed + 1))

-- by the last one
pub has_above-last : {slots : Slots} (last : ℕ) → IsLastId slots last → has_above 0 slots ≡ nat_lt 14 last
has_above-last {slots} zero is = none_above 0 slots (λ k above. is.none_above (suc k) (omega arith))
has_above-last {slots} (suc k) is = elim (cases_lt 14 (suc k)) [
  | inl high ↦
      let mapped = is.mapped (omega arith) in
      some_above 0 slots k mapped.0 mapped.1 (omega (arith, high)) ∙ sym (lt-ltb 14 (suc k) high)
  | inr low ↦ none_above 0 slots (λ j above. is.none_above (suc j) (omega (arith, above, low))) ∙ sym (le-ltb 14 (suc k) low)
]
