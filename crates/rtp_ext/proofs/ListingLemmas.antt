-- The entries of a map as a list by rising id.
use Rattle.rtp_ext.proofs.Common.{◌≡◌, [], ℕ, ◌+◌, ◌<◌, ◌≤◌, ◌⊎◌, inl, inr, suc, zero, ◌-◌, List, ◌∷◌, ◌++◌, length, get_or, Bool, true, false, Option, Some, None, All, arith, ap, refl, sym, ◌∙◌, subst, Contains, filter, false≢true, cases_lt, eqb_tells, All-head, All-tail, All-weaker, All-append, All-cons, All-nil, Contains-append_left, Contains-append_right, unwrap_or, Extension, Entry, Slots, IsEmpty, entry_at, extension_at, extension_of, unlocked, Sets, IsLocked, IsUnlocked, IsRising, ListsItems, items_from, mapped_count, HasNoIdAbove}
use Rattle.rtp_ext.proofs.MapLemmas.{entry_at-slot}

-- one more at the end
IsRising-snoc : (items : List (ℕ × Extension)) (item : ℕ × Extension) → IsRising items → All (λ i. i.0 < item.0) items → IsRising (items ++ item ∷ [])
IsRising-snoc [] item rising below = (All-nil (λ later. item.0 < later.0), tt)
IsRising-snoc (i ∷ items) item rising below = (
  All-append (λ later. i.0 < later.0) items (item ∷ []) rising.0
      (All-cons (λ later. i.0 < later.0) item [] (All-head (λ j. j.0 < item.0) i items below) (All-nil (λ later. i.0 < later.0))),
  IsRising-snoc items item rising.1 (All-tail (λ j. j.0 < item.0) i items below),
)

-- the items are those of the map, all below a bound and none locked
pub record IsListed (slots : Slots) (items : List (ℕ × Extension)) (bound : ℕ) : Type 0 where
  pub listing : ListsItems slots (λ _. true) items
  pub below : All (λ item. item.0 < bound) items
  pub unlocked : IsUnlocked slots

pub IsListed-none : (slots : Slots) → IsEmpty slots → IsListed slots [] 0
IsListed-none slots empty = record {
  listing = record {
    rising = tt;
    mapped = All-nil (λ item. (extension_at slots item.0 ≡ Some item.1) × (true ≡ true));
    all = λ id extension is passes. let none = ap extension_of (empty id) in cc;
  };
  below = All-nil (λ item. item.0 < 0);
  unlocked = λ id is_locked. subst IsLocked (empty id) is_locked;
}

-- an id above the others is set
pub IsListed-set : {old new : Slots} {items : List (ℕ × Extension)} {bound id : ℕ} (extension : Extension) → bound ≤ id
    → IsListed old items bound → Sets old new id (unlocked extension) → IsListed new (items ++ (id, extension) ∷ []) (id + 1)
IsListed-set {new} {items} {bound} {id} extension above listed sets = record {
  listing = record {
    rising = IsRising-snoc items (id, extension) listed.listing.rising below;
    mapped = All-append Mapped items ((id, extension) ∷ []) mapped
        (All-cons Mapped (id, extension) [] (ap extension_of sets.this, refl) (All-nil Mapped));
    all = all;
  };
  below = All-append (λ item. item.0 < id + 1) items ((id, extension) ∷ [])
      (All-weaker (λ item. item.0 < id) (λ item. item.0 < id + 1) (λ item less. omega arith) items below)
      (All-cons (λ item. item.0 < id + 1) (id, extension) [] (omega arith) (All-nil (λ item. item.0 < id + 1)));
  unlocked = λ j is_locked. elim (eqb_tells j id) [
    | inl is ↦ false≢true (subst IsLocked (ap (entry_at new) is.1 ∙ sets.this) is_locked)
    | inr isnt ↦ listed.unlocked j (subst IsLocked (sets.others j isnt.1) is_locked)
  ];
}
  where
    Mapped : ℕ × Extension → Type 0
    Mapped item = (extension_at new item.0 ≡ Some item.1) × (true ≡ true)

    below : All (λ item. item.0 < id) items
    below = All-weaker (λ item. item.0 < bound) (λ item. item.0 < id) (λ item less. omega arith) items listed.below

    mapped : All Mapped items
    mapped = λ k d here.
        let less : (get_or items k d).0 < id = below k d here in
        let was = listed.listing.mapped k d here in
        (ap extension_of (sets.others (get_or items k d).0 (λ same. omega arith)) ∙ was.0, refl)

    all : (j : ℕ) (x : Extension) → extension_at new j ≡ Some x → true ≡ true → Contains (items ++ (id, extension) ∷ []) (j, x)
    all j x is passes = elim (eqb_tells j id) [
      | inl same ↦ Contains-append_right items ((id, extension) ∷ []) (j, x) (
        0,
        omega arith,
        ap (λ (k : ℕ). (k, extension)) (sym same.1) ∙ ap (λ e. (j, e)) (ap (λ found. unwrap_or found extension)
            (sym (ap extension_of sets.this) ∙ (ap (extension_at new) (sym same.1) ∙ is))),
      )
      | inr isnt ↦ Contains-append_left items ((id, extension) ∷ []) (j, x)
          (listed.listing.all j x (ap extension_of (sym (sets.others j isnt.1)) ∙ is) refl)
    ]

-- an item of one of the slots
abbrev IsItem : ℕ → Slots → ℕ × Extension → Type 0
IsItem passed left item = (k : ℕ) × (item.0 ≡ passed + k + 1) × (extension_of (get_or left k None) ≡ Some item.1)

-- what the slots give, by how many were passed before them
record AreItems (passed : ℕ) (left : Slots) (items : List (ℕ × Extension)) : Type 0 where
  rising : IsRising items
  above : All (λ item. passed < item.0) items
  here : All (IsItem passed left) items
  all : (k : ℕ) (extension : Extension) → extension_of (get_or left k None) ≡ Some extension → Contains items (passed + k + 1, extension)

-- an item of the slots after one
IsItem-more : (passed : ℕ) (slot : Option Entry) (left : Slots) (item : ℕ × Extension) → IsItem (passed + 1) left item → IsItem passed (slot ∷ left) item
IsItem-more passed slot left item found = (suc found.0, omega (arith, found.1), found.2)

Contains-more : (passed : ℕ) (k : ℕ) (items : List (ℕ × Extension)) (extension : Extension)
    → Contains items (passed + 1 + k + 1, extension) → Contains items (passed + suc k + 1, extension)
Contains-more passed k items extension found =
    let same : passed + 1 + k + 1 ≡ passed + suc k + 1 = omega arith in
    subst (λ (n : ℕ). Contains items (n, extension)) same found

AreItems-none : (passed : ℕ) {left : Slots} {items : List (ℕ × Extension)} → AreItems (passed + 1) left items → AreItems passed (None ∷ left) items
AreItems-none passed {left} {items} rest = record {
  rising = rest.rising;
  above = All-weaker (λ item. passed + 1 < item.0) (λ item. passed < item.0) (λ item less. omega arith) items rest.above;
  here = All-weaker (IsItem (passed + 1) left) (IsItem passed (None ∷ left)) (IsItem-more passed None left) items rest.here;
  all = all;
}
  where
    all : (k : ℕ) (extension : Extension) → extension_of (get_or (None ∷ left) k None) ≡ Some extension
        → Contains items (passed + k + 1, extension)
    all zero extension is = cc
    all (suc k) extension is = Contains-more passed k items extension (rest.all k extension is)

AreItems-some : (passed : ℕ) (entry : Entry) {left : Slots} {items : List (ℕ × Extension)} → AreItems (passed + 1) left items
    → AreItems passed (Some entry ∷ left) ((passed + 1, entry.extension) ∷ items)
AreItems-some passed entry {left} {items} rest = record {
  rising = (rest.above, rest.rising);
  above = All-cons (λ item. passed < item.0) (passed + 1, entry.extension) items (omega arith)
      (All-weaker (λ item. passed + 1 < item.0) (λ item. passed < item.0) (λ item less. omega arith) items rest.above);
  here = All-cons (IsItem passed (Some entry ∷ left)) (passed + 1, entry.extension) items (0, omega arith, refl)
      (All-weaker (IsItem (passed + 1) left) (IsItem passed (Some entry ∷ left)) (IsItem-more passed (Some entry) left) items rest.here);
  all = all;
}
  where
    all : (k : ℕ) (extension : Extension) → extension_of (get_or (Some entry ∷ left) k None) ≡ Some extension
        → Contains ((passed + 1, entry.extension) ∷ items) (passed + k + 1, extension)
    all zero extension is =
        let index : passed + 1 ≡ passed + 0 + 1 = omega arith in (
          0,
          omega arith,
          ap (λ (n : ℕ). (n, entry.extension)) index
              ∙ ap (λ e. (passed + 0 + 1, e)) (ap (λ found. unwrap_or found entry.extension) is),
        )
    all (suc k) extension is =
        Contains-append_right ((passed + 1, entry.extension) ∷ []) items (passed + suc k + 1, extension)
        (Contains-more passed k items extension (rest.all k extension is))

items_from-items : (passed : ℕ) (left : Slots) → AreItems passed left (items_from passed left)
items_from-items passed [] = record {
  rising = tt;
  above = All-nil (λ item. passed < item.0);
  here = All-nil (IsItem passed []);
  all = λ k extension is. cc;
}
items_from-items passed (None ∷ left) = AreItems-none passed (items_from-items (passed + 1) left)
items_from-items passed (Some entry ∷ left) =
    AreItems-some passed entry (items_from-items (passed + 1) left)

-- the ids of the slots that are left are above the number of those passed
pub above_passed : (passed : ℕ) (left : Slots) → All (λ item. passed < item.0) (items_from passed left)
above_passed passed left = (items_from-items passed left).above

-- slots in which nothing stands give none
pub items_from-empty : (passed : ℕ) (left : Slots) → ((k : ℕ) → get_or left k None ≡ None) → items_from passed left ≡ []
items_from-empty passed [] empty = refl
items_from-empty passed (None ∷ left) empty = items_from-empty (passed + 1) left (λ k. empty (suc k))
items_from-empty passed (Some entry ∷ left) empty = let first = empty 0 in cc

-- there are no more items than slots
pub length-items_from : (passed : ℕ) (left : Slots) → length (items_from passed left) ≤ length left
length-items_from passed [] = omega arith
length-items_from passed (None ∷ left) = omega (arith, length-items_from (passed + 1) left)
length-items_from passed (Some entry ∷ left) = omega (arith, length-items_from (passed + 1) left)

-- of the ids up to a greatest one at most that many are mapped
items_from-few : (greatest passed : ℕ) (left : Slots) → ((i : ℕ) → greatest ≤ passed + i → get_or left i None ≡ None)
    → length (items_from passed left) ≤ greatest - passed
items_from-few greatest passed [] none = omega arith
items_from-few greatest passed (None ∷ left) none =
    omega (arith, items_from-few greatest (passed + 1) left (λ i above. none (suc i) (omega arith)))
items_from-few greatest passed (Some entry ∷ left) none = elim (cases_lt passed greatest) [
  | inl below ↦ omega (arith, below, items_from-few greatest (passed + 1) left (λ i above. none (suc i) (omega arith)))
  | inr above ↦ let nothing = none zero (omega arith) in cc
]

pub mapped_count-few : (greatest : ℕ) (slots : Slots) → HasNoIdAbove greatest slots → mapped_count slots ≤ greatest
mapped_count-few greatest slots none = omega (arith, items_from-few greatest 0 slots (λ i above. none (suc i) (omega arith)))

-- the slots of a map give its listing
pub ListsItems-from_slots : (slots : Slots) → ListsItems slots (λ _. true) (items_from 0 slots)
ListsItems-from_slots slots =
    let items = items_from-items 0 slots in
    record {
      rising = items.rising;
      mapped = All-weaker (IsItem 0 slots) (λ item. (extension_at slots item.0 ≡ Some item.1) × (true ≡ true)) (λ item found. (ap extension_of (entry_at-slot slots found.0 item.0 (omega (arith, found.1))) ∙ found.2, refl)) (items_from 0 slots) items.here;
      all = λ id extension is passes. all id extension is;
    }
  where
    all : (id : ℕ) (extension : Extension) → extension_at slots id ≡ Some extension → Contains (items_from 0 slots) (id, extension)
    all zero extension is = cc
    all (suc k) extension is =
        let index : 0 + k + 1 ≡ suc k = omega arith in
        subst (λ (n : ℕ). Contains (items_from 0 slots) (n, extension)) index ((items_from-items 0 slots).all k extension is)

-- a truth value is one of two
true_or_false : (b : Bool) → (b ≡ true) ⊎ (b ≡ false)
true_or_false true = inl refl
true_or_false false = inr refl

filter-yes : {X : Type 0} (p : X → Bool) (x : X) (xs : List X) → p x ≡ true → filter p (x ∷ xs) ≡ x ∷ filter p xs
filter-yes p x xs passed = rw passed refl

filter-no : {X : Type 0} (p : X → Bool) (x : X) (xs : List X) → p x ≡ false → filter p (x ∷ xs) ≡ filter p xs
filter-no p x xs failed = rw failed refl

-- what holds of all holds of those that pass, and so does the test
All-filter : {X : Type 0} (p : X → Bool) (P : X → Type 0) (xs : List X) → All P xs → All (λ x. P x × (p x ≡ true)) (filter p xs)
All-filter p P [] all = All-nil (λ x. P x × (p x ≡ true))
All-filter p P (x ∷ xs) all =
    let rest = All-filter p P xs (All-tail P x xs all) in
    elim (true_or_false (p x)) [
      | inl passed ↦ subst (All (λ y. P y × (p y ≡ true))) (sym (filter-yes p x xs passed))
          (All-cons (λ y. P y × (p y ≡ true)) x (filter p xs) (All-head P x xs all, passed) rest)
      | inr failed ↦ subst (All (λ y. P y × (p y ≡ true))) (sym (filter-no p x xs failed)) rest
    ]

Contains-filter : {X : Type 0} (p : X → Bool) (x : X) (xs : List X) → Contains xs x → p x ≡ true → Contains (filter p xs) x
Contains-filter p x [] found passed = absurd (omega (arith, found.1))
Contains-filter p x (y ∷ ys) (zero, here, is) passed =
    subst (λ zs. Contains zs x) (sym (filter-yes p y ys (ap p is ∙ passed))) (0, omega arith, is)
Contains-filter p x (y ∷ ys) (suc k, here, is) passed =
    let rest = Contains-filter p x ys (k, omega arith, is) passed in
    elim (true_or_false (p y)) [
      | inl also ↦ subst (λ zs. Contains zs x) (sym (filter-yes p y ys also)) (Contains-append_right (y ∷ []) (filter p ys) x rest)
      | inr failed ↦ subst (λ zs. Contains zs x) (sym (filter-no p y ys failed)) rest
    ]

IsRising-filter : (p : ℕ × Extension → Bool) (items : List (ℕ × Extension)) → IsRising items → IsRising (filter p items)
IsRising-filter p [] rising = tt
IsRising-filter p (item ∷ items) rising =
    let rest = IsRising-filter p items rising.1 in
    elim (true_or_false (p item)) [
      | inl passed ↦ subst IsRising (sym (filter-yes p item items passed)) (
        All-weaker (λ later. (item.0 < later.0) × (p later ≡ true)) (λ later. item.0 < later.0) (λ later both. both.0) (filter p items)
            (All-filter p (λ later. item.0 < later.0) items rising.0),
        rest,
      )
      | inr failed ↦ subst IsRising (sym (filter-no p item items failed)) rest
    ]

-- those that pass a test
pub ListsItems-filter : {slots : Slots} (passes : Extension → Bool) {items : List (ℕ × Extension)} → ListsItems slots (λ _. true) items
    → ListsItems slots passes (filter (λ item. passes item.1) items)
ListsItems-filter {slots} passes {items} listing = record {
  rising = IsRising-filter (λ item. passes item.1) items listing.rising;
  mapped = All-weaker (λ item. ((extension_at slots item.0 ≡ Some item.1) × (true ≡ true)) × (passes item.1 ≡ true)) (λ item. (extension_at slots item.0 ≡ Some item.1) × (passes item.1 ≡ true)) (λ item both. (both.0.0, both.1)) (filter (λ item. passes item.1) items)
      (All-filter (λ item. passes item.1) (λ item. (extension_at slots item.0 ≡ Some item.1) × (true ≡ true)) items listing.mapped);
  all = λ id extension is passed. Contains-filter (λ item. passes item.1) (id, extension) items (listing.all id extension is refl) passed;
}

-- each item is of an id that is mapped so
pub items_mapped : (slots : Slots) → All (λ item. extension_at slots item.0 ≡ Some item.1) (items_from 0 slots)
items_mapped slots = λ k d here. ((ListsItems-from_slots slots).mapped k d here).0

-- an id is mapped to nothing, or there is an item of it
pub unmapped_or_item : (slots : Slots) (id : ℕ) → (extension_at slots id ≡ None) ⊎ ((extension : Extension) × Contains (items_from 0 slots) (id, extension))
unmapped_or_item slots id = found (extension_at slots id) refl
  where
    found : (at : Option Extension) → extension_at slots id ≡ at → (extension_at slots id ≡ None) ⊎ ((extension : Extension) × Contains (items_from 0 slots) (id, extension))
    found None missing = inl missing
    found (Some extension) mapped = inr (extension, (ListsItems-from_slots slots).all id extension mapped refl)

-- an item of a list is its first one, or one of the others
pub item_or_later : (item : ℕ × Extension) (left : List (ℕ × Extension)) (id : ℕ) (extension : Extension) → Contains (item ∷ left) (id, extension)
    → (item.0 ≡ id) ⊎ Contains left (id, extension)
item_or_later item left id extension (zero, here, is) = inl (ap (λ (i : ℕ × Extension). i.0) is)
item_or_later item left id extension (suc k, here, is) = inr (k, omega arith, is)
