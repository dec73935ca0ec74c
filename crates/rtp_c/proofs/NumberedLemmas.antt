-- The map that C fills, as it stands: what each id is mapped to, and a walk over the mapped ids.
use Rattle.rtp_c.proofs.Common.{◌≡◌, ◌≢◌, ℕ, zero, suc, ◌≤◌, ◌<◌, ◌+◌, ◌-◌, ◌%◌, List, [], ◌∷◌, length, map, take, drop, get_or, Bool, false, true, Option, None, Some, inl, inr, arith, refl, sym, ap, ◌∙◌, subst, le-ltb, nat_lt, option_map, cases_lt, false≢true, length-map, length-take, length-drop, drop_all, drop_more, take_all, get_or-take, get_or_past, get_or-map, one_kind, extension_of_kind, KnownKind, Slots, IsLowest, IsUnmapped, extension_at, extension_of, items_from, entry_of_kind, IsNewId, items_from-empty, length-items_from, HasKinds, IsFirstNumber, numbered_slots}
use Rattle.rtp_ext.proofs.KindsByIdLemmas.{entry_at-kinds}
use Rattle.rtp_c.specs.KindNumbers.{kind_number, kind_numbered, numbered_kinds, IsKindNumbered}
use Rattle.rtp_c.proofs.KindNumberLemmas.{number≢0, number_zero, number_of_kind, numbered_is, all_pass, numbered_passes}
use Rattle.rtp_ext.proofs.RenamedIdLemmas.{kind_found}

-- ---- the kinds of numbers

-- the slots are those of the numbers
pub HasKinds-numbered : (numbers : List ℕ) → HasKinds numbers (numbered_slots numbers)
HasKinds-numbered numbers = record {
  kinds = map kind_numbered numbers;
  as_many = length-map numbers kind_numbered;
  numbered = λ i within.
      subst (IsKindNumbered (get_or numbers i 0))
      (sym (ap (get_or (map kind_numbered numbers) i) (sym number_zero) ∙ get_or-map kind_numbered numbers i 0))
      (numbered_is (get_or numbers i 0));
  slots_are = refl;
}

-- a number that isn't one of 1 to 15 is that of no kind
all_in_range : all_pass (λ number kind. nat_lt ((number + 255) % 256) 15) 0 numbered_kinds ≡ true
unfolding all_pass
all_in_range = refl

pub no_kind_past : (number : ℕ) → nat_lt ((number + 255) % 256) 15 ≡ false → kind_numbered number ≡ None
no_kind_past number out = of_found (kind_numbered number) refl
  where
    of_found : (found : Option KnownKind) → kind_numbered number ≡ found → found ≡ None
    of_found None none = refl
    of_found (Some kind) some = absurd (false≢true (sym out ∙ numbered_passes _ all_in_range number kind some))

-- and each of 1 to 15 is that of a kind
all_some : List (Option KnownKind) → Bool
all_some [] = true
all_some (None ∷ kinds) = false
all_some (Some kind ∷ kinds) = all_some kinds

some_at : (kinds : List (Option KnownKind)) (index : ℕ) → all_some kinds ≡ true → index < length kinds → get_or kinds index None ≢ None
unfolding all_some
some_at [] index all within = absurd (omega arith)
some_at (None ∷ kinds) index all within = cc
some_at (Some kind ∷ kinds) zero all within = λ none. cc
some_at (Some kind ∷ kinds) (suc index) all within = some_at kinds index all (omega arith)

some_from_1 : all_some (drop 1 numbered_kinds) ≡ true
unfolding all_some
some_from_1 = refl

pub no_kind_out : (number : ℕ) → number < 256 → kind_numbered number ≡ None → nat_lt ((number + 255) % 256) 15 ≡ false
unfolding kind_numbered
no_kind_out zero byte none = refl
no_kind_out (suc before) byte none = elim (cases_lt before 15) [
  | inl few ↦ absurd (some_at (drop 1 numbered_kinds) before some_from_1 few none)
  | inr many ↦ le-ltb ((suc before + 255) % 256) 15 (omega (arith, many, byte))
]

-- the number of a kind
pub number_found : (number : ℕ) (kind : KnownKind) → kind_numbered number ≡ Some kind → number ≡ kind_number kind
number_found number kind is = sym (subst (IsKindNumbered number) is (numbered_is number))

-- ---- a walk over the mapped ids

-- the slot of an id
pub slot_numbered : (numbers : List ℕ) (k : ℕ) → get_or (numbered_slots numbers) k None ≡ entry_of_kind (kind_numbered (get_or numbers (suc k) 0))
slot_numbered numbers k =
    entry_at-kinds (map kind_numbered numbers) k
    ∙ ap entry_of_kind (ap (get_or (map kind_numbered numbers) (suc k)) (sym number_zero) ∙ get_or-map kind_numbered numbers (suc k) 0)

-- the kind of an id
pub extension_numbered : (numbers : List ℕ) (id : ℕ) (kind : Option KnownKind) → 1 ≤ id → kind ≡ kind_numbered (get_or numbers id 0)
    → option_map extension_of_kind kind ≡ extension_at (numbered_slots numbers) id
extension_numbered numbers zero kind above is = absurd (omega (arith, above))
extension_numbered numbers (suc k) kind above is =
    of_entry kind ∙ ap extension_of (ap entry_of_kind is ∙ sym (slot_numbered numbers k))
  where
    of_entry : (kind : Option KnownKind) → option_map extension_of_kind kind ≡ extension_of (entry_of_kind kind)
    of_entry None = refl
    of_entry (Some k) = refl

length-numbered : (numbers : List ℕ) → length (numbered_slots numbers) ≡ length numbers - 1
length-numbered numbers =
    length-map (drop 1 (map kind_numbered numbers)) entry_of_kind ∙ length-drop 1 (map kind_numbered numbers)
    ∙ ap (λ (n : ℕ). n - 1) (length-map numbers kind_numbered)

-- the slots of a walk from an index on
front : List ℕ → ℕ → Slots
front numbers end = take end (numbered_slots numbers)

split : (numbers : List ℕ) (end at : ℕ) (kind : Option KnownKind) → length numbers ≡ 256 → end ≤ 255 → at < end
    → kind ≡ kind_numbered (get_or numbers (at + 1) 0)
    → drop at (take end (numbered_slots numbers)) ≡ entry_of_kind kind ∷ drop (at + 1) (take end (numbered_slots numbers))
split numbers end at kind long within below is =
    let slots = numbered_slots numbers in
    let many : at < length (take end slots) = omega (arith, length-take end slots, length-numbered numbers) in
    let index : at + 1 ≡ suc at = omega arith in
    drop_more (take end slots) at None many
    ∙ ap (λ slot. slot ∷ drop (at + 1) (take end slots))
    (get_or-take end slots at None below ∙ slot_numbered numbers at
    ∙ sym (ap entry_of_kind (is ∙ ap (λ (i : ℕ). kind_numbered (get_or numbers i 0)) index)))

-- an id that is mapped to nothing is passed
pub numbered-pass : (numbers : List ℕ) (end at : ℕ) (kind : Option KnownKind) → length numbers ≡ 256 → end ≤ 255 → at < end
    → kind ≡ kind_numbered (get_or numbers (at + 1) 0) → kind ≡ None
    → items_from at (drop at (take end (numbered_slots numbers))) ≡ items_from (at + 1) (drop (at + 1) (take end (numbered_slots numbers)))
numbered-pass numbers end at kind long within below is none =
    ap (items_from at) (split numbers end at None long within below (sym none ∙ is))

-- the next one
pub numbered-next : (numbers : List ℕ) (end at : ℕ) (kind : KnownKind) → length numbers ≡ 256 → end ≤ 255 → at < end
    → Some kind ≡ kind_numbered (get_or numbers (at + 1) 0)
    → items_from at (drop at (take end (numbered_slots numbers)))
    ≡ (at + 1, extension_of_kind kind) ∷ items_from (at + 1) (drop (at + 1) (take end (numbered_slots numbers)))
numbered-next numbers end at kind long within below is =
    ap (items_from at) (split numbers end at (Some kind) long within below is)

-- ids that are all mapped to nothing are passed over
pub numbered-over : (n : ℕ) (numbers : List ℕ) (end at : ℕ) → length numbers ≡ 256 → end ≤ 255 → at + n ≤ end
    → ((slot : ℕ) → at ≤ slot → slot < at + n → kind_numbered (get_or numbers (slot + 1) 0) ≡ None)
    → items_from at (drop at (take end (numbered_slots numbers))) ≡ items_from (at + n) (drop (at + n) (take end (numbered_slots numbers)))
numbered-over zero numbers end at long within below empty =
    let same : at ≡ at + 0 = omega arith in
    ap (λ (k : ℕ). items_from k (drop k (take end (numbered_slots numbers)))) same
numbered-over (suc n) numbers end at long within below empty =
    let next : at + 1 + n ≡ at + suc n = omega arith in
    numbered-pass numbers end at None long within (omega (arith, below)) (sym (empty at (omega arith) (omega arith))) refl
    ∙ numbered-over n numbers end (at + 1) long within (omega (arith, below)) (λ slot above under. empty slot (omega (arith, above)) (omega (arith, under)))
    ∙ ap (λ (k : ℕ). items_from k (drop k (take end (numbered_slots numbers)))) next

-- none is left
pub numbered-ended : (numbers : List ℕ) (end at : ℕ) → end ≤ at → items_from at (drop at (take end (numbered_slots numbers))) ≡ []
numbered-ended numbers end at past =
    ap (items_from at) (drop_all at (take end (numbered_slots numbers)) (omega (arith, length-take end (numbered_slots numbers))))

-- slots that are empty from an index on
items_from-front : (n passed : ℕ) (left : Slots) → ((i : ℕ) → n ≤ i → get_or left i None ≡ None)
    → items_from passed (take n left) ≡ items_from passed left
items_from-front zero passed left none = sym (items_from-empty passed left (λ k. none k (omega arith)))
items_from-front (suc n) passed [] none = refl
items_from-front (suc n) passed (None ∷ left) none = items_from-front n (passed + 1) left (λ i above. none (suc i) (omega arith))
items_from-front (suc n) passed (Some entry ∷ left) none =
    ap (λ items. (passed + 1, entry.extension) ∷ items) (items_from-front n (passed + 1) left (λ i above. none (suc i) (omega arith)))

-- a walk that ends before numbers that are 0 has all mapped ids
pub numbered-low : (numbers : List ℕ) (end : ℕ) → ((i : ℕ) → end + 1 ≤ i → get_or numbers i 0 ≡ 0)
    → items_from 0 (take end (numbered_slots numbers)) ≡ items_from 0 (numbered_slots numbers)
numbered-low numbers end zeros =
    items_from-front end 0 (numbered_slots numbers)
    (λ i above. slot_numbered numbers i ∙ ap (λ (n : ℕ). entry_of_kind (kind_numbered n)) (zeros (suc i) (omega arith)) ∙ ap entry_of_kind number_zero)

pub numbered-all : (numbers : List ℕ) → length numbers ≡ 256
    → items_from 0 (take 255 (numbered_slots numbers)) ≡ items_from 0 (numbered_slots numbers)
numbered-all numbers long =
    ap (items_from 0) (take_all 255 (numbered_slots numbers) (omega (arith, length-numbered numbers)))

pub numbered-few : (numbers : List ℕ) → length numbers ≡ 256 → length (items_from 0 (numbered_slots numbers)) ≤ 255
numbered-few numbers long = omega (arith, length-items_from 0 (numbered_slots numbers), length-numbered numbers)

-- at most as many are mapped as a walk over all of them has slots
pub numbered-most : (numbers : List ℕ) (end at : ℕ)
    → items_from at (drop at (take end (numbered_slots numbers))) ≡ items_from 0 (numbered_slots numbers)
    → length (items_from 0 (numbered_slots numbers)) ≤ end
numbered-most numbers end at all =
    let slots = take end (numbered_slots numbers) in
    omega (arith, ap length all, length-items_from at (drop at slots), length-drop at slots, length-take end (numbered_slots numbers))

-- ---- the new id of an id

pub after_first : (numbers : List ℕ) (k : ℕ) → get_or (drop 1 numbers) k 0 ≡ get_or numbers (suc k) 0
after_first [] k = refl
after_first (first ∷ numbers) k = refl

pub numbered_kind : (numbers : List ℕ) (id : ℕ) (kind : KnownKind) → extension_at (numbered_slots numbers) id ≡ Some (extension_of_kind kind)
    → get_or numbers id 0 ≡ kind_number kind
numbered_kind numbers zero kind is = cc
numbered_kind numbers (suc k) kind is =
    let found = kind_found (kind_numbered (get_or numbers (suc k) 0)) kind (extension_numbered numbers (suc k) _ (omega arith) refl ∙ is) in
    sym (subst (IsKindNumbered (get_or numbers (suc k) 0)) found (numbered_is (get_or numbers (suc k) 0)))

numbered_lowest : (numbers : List ℕ) (kind : KnownKind) (index : ℕ) → IsFirstNumber (drop 1 numbers) (kind_number kind) index
    → IsLowest (numbered_slots numbers) (extension_of_kind kind) (suc index)
numbered_lowest numbers kind index first = record {
  mapped = sym (extension_numbered numbers (suc index) (Some kind) (omega arith) (sym (ap kind_numbered here ∙ number_of_kind kind)));
  lowest = before;
}
  where
    here : get_or numbers (suc index) 0 ≡ kind_number kind
    here = sym (after_first numbers index) ∙ first.here

    before : (k : ℕ) → k < suc index → extension_at (numbered_slots numbers) k ≡ Some (extension_of_kind kind) → ⊥
    before zero below is = cc
    before (suc k) below is = first.before k (omega arith) (after_first numbers k ∙ numbered_kind numbers (suc k) kind is)

pub numbered-found : (from to rest : List ℕ) (id : ℕ) (kind : KnownKind) (index new : ℕ) → rest ≡ drop 1 to → option_map extension_of_kind (Some kind) ≡ extension_at (numbered_slots from) id
    → IsFirstNumber rest (kind_number kind) index → new ≡ index + 1 → IsNewId (numbered_slots from) (numbered_slots to) id (Some new)
numbered-found from to rest id kind index new rest_is is first new_is =
    let next : suc index ≡ new = omega (arith, new_is) in (
      extension_of_kind kind,
      sym is,
      subst (IsLowest (numbered_slots to) (extension_of_kind kind)) next
          (numbered_lowest to kind index (subst (λ (ns : List ℕ). IsFirstNumber ns (kind_number kind) index) rest_is first)),
    )

pub numbered-unmapped : (from to rest : List ℕ) (id : ℕ) (kind : KnownKind) → rest ≡ drop 1 to → option_map extension_of_kind (Some kind) ≡ extension_at (numbered_slots from) id
    → ((k : ℕ) → k < length rest → get_or rest k 0 ≢ kind_number kind) → IsNewId (numbered_slots from) (numbered_slots to) id None
numbered-unmapped from to rest id kind rest_is is never = λ extension mapped.
    let same : extension_of_kind kind ≡ extension = one_kind (is ∙ mapped) in
    subst (IsUnmapped (numbered_slots to)) same nowhere
  where
    nowhere : IsUnmapped (numbered_slots to) (extension_of_kind kind)
    nowhere zero is_here = cc
    nowhere (suc k) is_here =
        let number = after_first to k ∙ numbered_kind to (suc k) kind is_here in
        elim (cases_lt k (length (drop 1 to))) [
          | inl within ↦ never k (omega (arith, within, ap length rest_is)) (ap (λ (ns : List ℕ). get_or ns k 0) rest_is ∙ number)
          | inr past ↦ number≢0 kind (sym number ∙ get_or_past (drop 1 to) k 0 (omega (arith, past)))
        ]
