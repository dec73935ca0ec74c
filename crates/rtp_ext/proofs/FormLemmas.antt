-- The form that mapped ids and their values need, and the elements that it can carry.
use Rattle.rtp_ext.proofs.Common.{◌≡◌, ℕ, zero, suc, ◌+◌, ◌*◌, ◌≤◌, ◌<◌, ◌⊎◌, inl, inr, List, [], ◌∷◌, length, Bool, true, false, Option, Some, None, refl, sym, subst, ◌∙◌, arith, ◌||◌, ◌&&◌, nat_lt, nat_eq, if◌then◌else◌, w8, rotate_left, AllByRecursion, filter_map, list_any, option_map, or_parts, and_parts, cases_lt, eqb-true, nat_tests, ExtensionsForm, OneByte, TwoByte, Extension, KnownKind, extension_of_kind, ExtensionValues, Element, has_no_data, spelled_data, longest, CanCarry, Slots, items_from, needs_two, form_of}
use Rattle.rtp_values.specs.declared.known_kind.KnownKind.TheVariants.{VideoLayersAllocation}
use Rattle.rtp_values.specs.contracts.known_kind.KnownKindPartialEq.TheImpl as kind_eq

-- a mapped id with its kind
abbrev pub Item : Type 0
Item = ℕ × Extension

-- the element of a mapped id, and those of mapped ids in a row
abbrev pub element_of : ExtensionValues → Item → Option Element
element_of values item = option_map (λ bytes. (item.0, bytes)) (spelled_data item.1 values)

abbrev pub elements_of : ExtensionValues → List Item → List Element
elements_of values items = filter_map (element_of values) items

-- ---- the form

-- the kind whose data may have more than 16 bytes
pub long_kind : (kind : KnownKind) → (kind_eq.ghosts).eq kind VideoLayersAllocation ≡ nat_lt 16 (longest (extension_of_kind kind))
long_kind VideoLayersAllocation = refl
long_kind _ = refl

-- the form for mapped ids in a row
unfoldable pub form_for : ExtensionValues → List Item → ExtensionsForm
form_for values items = if list_any (needs_two values) items then TwoByte else OneByte

pub form_for-map : (exts : Slots) (values : ExtensionValues) → form_for values (items_from 0 exts) ≡ form_of exts values
unfolding form_for
form_for-map exts values = refl

either_if : (a b : Bool) (x y : ExtensionsForm) → (if a || b then x else y) ≡ (if a then x else (if b then x else y))
either_if true b x y = refl
either_if false b x y = refl

pub form_for-cons : (values : ExtensionValues) (item : Item) (items : List Item)
    → form_for values (item ∷ items) ≡ (if needs_two values item then TwoByte else form_for values items)
unfolding form_for
form_for-cons values item items = either_if (needs_two values item) (list_any (needs_two values) items) TwoByte OneByte

-- ---- what the form can carry

-- a mapped id whose element the form can carry
abbrev pub IsFit : ExtensionsForm → ExtensionValues → Item → Type 0
IsFit form values item = (1 ≤ item.0) × CanCarry form item (spelled_data item.1 values)

CanCarry-two : (item : Item) (bytes : Option (List ℕ)) → CanCarry TwoByte item bytes
CanCarry-two item None = tt
CanCarry-two item (Some bytes) = tt

pub at_most : (most n : ℕ) → nat_lt most n ≡ false → n ≤ most
at_most most n not_above = grind (arith, nat_tests)

some_byte : (bytes : List ℕ) → has_no_data (Some bytes) ≡ false → 1 ≤ length bytes
some_byte bytes some = grind (arith, nat_tests)

CanCarry-one : (item : Item) (bytes : Option (List ℕ)) → (nat_lt 14 item.0 || (nat_lt 16 (longest item.1) || has_no_data bytes)) ≡ false → CanCarry OneByte item bytes
CanCarry-one item None fits = tt
CanCarry-one item (Some bytes) fits =
    let low = or_parts (nat_lt 14 item.0) _ fits in
    let others = or_parts (nat_lt 16 (longest item.1)) _ low.1 in
    (at_most 14 item.0 low.0, at_most 16 (longest item.1) others.0, some_byte bytes others.1)

two≢one : {A : Type 0} → OneByte ≡ TwoByte → A
two≢one same = cc

one-first : (a : Bool) (rest : ExtensionsForm) → OneByte ≡ (if a then TwoByte else rest) → (a ≡ false) × (OneByte ≡ rest)
one-first true rest same = two≢one same
one-first false rest same = (refl, same)

fit-two : (values : ExtensionValues) (passed : ℕ) (left : Slots) → AllByRecursion (IsFit TwoByte values) (items_from passed left)
fit-two values passed [] = tt
fit-two values passed (None ∷ left) = fit-two values (passed + 1) left
fit-two values passed (Some entry ∷ left) =
    ((omega arith, CanCarry-two (passed + 1, entry.extension) (spelled_data entry.extension values)), fit-two values (passed + 1) left)

fit-one : (values : ExtensionValues) (passed : ℕ) (left : Slots) → OneByte ≡ form_for values (items_from passed left)
    → AllByRecursion (IsFit OneByte values) (items_from passed left)
fit-one values passed [] one = tt
fit-one values passed (None ∷ left) one = fit-one values (passed + 1) left one
fit-one values passed (Some entry ∷ left) one =
    let item : Item = (passed + 1, entry.extension) in
    let both = one-first _ _ (one ∙ form_for-cons values item (items_from (passed + 1) left)) in
    ((omega arith, CanCarry-one item (spelled_data entry.extension values) both.0), fit-one values (passed + 1) left both.1)

pub all_fit : (exts : Slots) (values : ExtensionValues) (form : ExtensionsForm) → (form ≡ form_of exts values) ⊎ (form ≡ TwoByte)
    → AllByRecursion (IsFit form values) (items_from 0 exts)
all_fit exts values TwoByte chosen = fit-two values 0 exts
all_fit exts values OneByte (inl chosen) = fit-one values 0 exts (chosen ∙ sym (form_for-map exts values))
all_fit exts values OneByte (inr two) = two≢one two

-- ---- an id in the upper four bits

holds_below : (ℕ → Bool) → ℕ → Bool
holds_below test zero = true
holds_below test (suc n) = test n && holds_below test n

below : (test : ℕ → Bool) (n k : ℕ) → holds_below test n ≡ true → k < n → test k ≡ true
unfolding holds_below
below test zero k all within = absurd (omega (arith, within))
below test (suc n) k all within = elim (cases_lt k n) [
  | inl before ↦ below test n k (and_parts _ _ all).1 before
  | inr here ↦ let same : n ≡ k = omega (arith, here, within) in subst (λ (i : ℕ). test i ≡ true) same (and_parts _ _ all).0
]

each_rotated : holds_below (λ id. nat_eq (rotate_left w8 id 4) (id * 16)) 15 ≡ true
unfolding holds_below
each_rotated = refl

pub rotated_id : (id : ℕ) → id ≤ 14 → rotate_left w8 id 4 ≡ id * 16
rotated_id id few = eqb-true _ _ (below (λ id. nat_eq (rotate_left w8 id 4) (id * 16)) 15 id each_rotated (omega (arith, few)))
