-- A copy of a map, or of its entries for one medium, made on a walk.
use Rattle.rtp_ext.proofs.Common.{◌≡◌, ◌⊎◌, inl, inr, ℕ, zero, suc, ◌+◌, ◌<◌, ◌≤◌, List, ◌∷◌, length, get_or, set, Bool, true, false, Option, Some, None, All, arith, refl, sym, ap, ◌∙◌, subst, length-set, if◌then◌else◌, Contains, cases_eq, cases_lt, get_or-set_same, get_or-set_other, get_or_default, same_lists, All-head, All-tail, Extension, Entry, Slots, IsEmpty, IsId, ListsItems, Sets, entry_at, extension_at, extension_of, is_of_medium, of_medium, unlocked, HasNoIdAbove}
use Rattle.rtp_ext.proofs.ListingLemmas.{item_or_later}

-- ---- of one medium

-- the entries for a medium are in the new map, but for those of the items that are left
pub record IsOfMediumBut (audio : Bool) (from : Slots) (left : List (ℕ × Extension)) (to : Slots) : Type 0 where
  pub mapped : All (λ item. (extension_at from item.0 ≡ Some item.1) × (is_of_medium audio item.1 ≡ true)) left
  pub each : (id : ℕ) → (entry_at to id ≡ of_medium audio (entry_at from id)) ⊎ ((extension : Extension) × Contains left (id, extension))

medium_or_none : (audio : Bool) (slot : Option Entry) → (of_medium audio slot ≡ None) ⊎ ((e : Extension) × (extension_of slot ≡ Some e) × (is_of_medium audio e ≡ true))
medium_or_none audio None = inl refl
medium_or_none audio (Some entry) = of_bool (is_of_medium audio entry.extension) refl
  where
    of_bool : (is : Bool) → is_of_medium audio entry.extension ≡ is
        → (of_medium audio (Some entry) ≡ None) ⊎ ((e : Extension) × (extension_of (Some entry) ≡ Some e) × (is_of_medium audio e ≡ true))
    of_bool true tested = inr (entry.extension, refl, tested)
    of_bool false tested = inl (ap (λ (b : Bool). if b then Some (unlocked entry.extension) else None) tested)

medium_of : (audio : Bool) (slot : Option Entry) (extension : Extension) → extension_of slot ≡ Some extension → is_of_medium audio extension ≡ true
    → of_medium audio slot ≡ Some (unlocked extension)
medium_of audio None extension is tested = cc
medium_of audio (Some entry) extension is tested =
    let same : entry.extension ≡ extension = cc in
    subst (λ (e : Extension). of_medium audio (Some entry) ≡ Some (unlocked e)) same
    (ap (λ (b : Bool). if b then Some (unlocked entry.extension) else None) (ap (is_of_medium audio) same ∙ tested))

pub IsOfMediumBut-start : (audio : Bool) {from : Slots} {left : List (ℕ × Extension)} (to : Slots) → ListsItems from (is_of_medium audio) left → IsEmpty to
    → IsOfMediumBut audio from left to
IsOfMediumBut-start audio {from} to listing empty = record {
  mapped = listing.mapped;
  each = λ id. elim (medium_or_none audio (entry_at from id)) [
    | inl none ↦ inl (empty id ∙ sym none)
    | inr found ↦ inr (found.0, listing.all id found.0 found.1 found.2)
  ];
}

id_of_mapped : (from : Slots) (id : ℕ) (extension : Extension) → extension_at from id ≡ Some extension → id < 256 → IsId id
id_of_mapped from zero extension is below = cc
id_of_mapped from (suc k) extension is below = (omega arith, omega arith)

pub IsOfMediumBut-next : {audio : Bool} {from : Slots} {left : List (ℕ × Extension)} (more : List (ℕ × Extension)) {to : Slots} (new : Slots) (item : ℕ × Extension) {put : Extension}
    → IsOfMediumBut audio from left to → left ≡ item ∷ more → item.0 < 256 → item.1 ≡ put → (IsId item.0 → Sets to new item.0 (unlocked put))
    → IsOfMediumBut audio from more new
IsOfMediumBut-next {audio} {from} more {to} new item {put} are is below same sets =
    record {
      mapped = All-tail Mapped item more whole.mapped;
      each = λ id. elim (cases_eq id item.0) [
        | inl here ↦ inl (subst (λ (i : ℕ). entry_at new i ≡ of_medium audio (entry_at from i)) (sym here)
            (done.this ∙ ap (λ (e : Extension). Some (unlocked e)) (sym same) ∙ sym (medium_of audio (entry_at from item.0) item.1 first.0 first.1)))
        | inr other ↦ elim (whole.each id) [
          | inl there ↦ inl (done.others id other ∙ there)
          | inr waits ↦ elim (item_or_later item more id waits.0 waits.1) [
            | inl this ↦ absurd (other (sym this))
            | inr later ↦ inr (waits.0, later)
          ]
        ]
      ];
    }
  where
    Mapped : ℕ × Extension → Type 0
    Mapped i = (extension_at from i.0 ≡ Some i.1) × (is_of_medium audio i.1 ≡ true)

    whole : IsOfMediumBut audio from (item ∷ more) to
    whole = subst (λ (items : List (ℕ × Extension)). IsOfMediumBut audio from items to) is are

    first : Mapped item
    first = All-head Mapped item more whole.mapped

    done : Sets to new item.0 (unlocked put)
    done = sets (id_of_mapped from item.0 item.1 first.0 below)

-- ---- of the whole map

-- the entries up to an index are in the new map, and no others yet
pub record IsCopiedTo (from to : Slots) (passed : ℕ) : Type 0 where
  pub long : length to ≡ length from
  pub before : (k : ℕ) → k < passed → get_or to k None ≡ get_or from k None
  pub after : (k : ℕ) → passed ≤ k → get_or to k None ≡ None

pub IsCopiedTo-start : (from to : Slots) → length to ≡ length from → IsEmpty to → IsCopiedTo from to 0
IsCopiedTo-start from to long empty = record {
  long = long;
  before = λ k below. absurd (omega (arith, below));
  after = λ k above. empty (suc k);
}

-- the next one is copied
pub IsCopiedTo-next : {from to : Slots} {passed : ℕ} {copy : Option Entry} → IsCopiedTo from to passed → passed < length from
    → copy ≡ get_or from passed None → IsCopiedTo from (set to passed copy) (passed + 1)
IsCopiedTo-next {from} {to} {passed} {copy} are within same = record {
  long = length-set to passed copy ∙ are.long;
  before = λ k below. elim (cases_eq k passed) [
    | inl here ↦
        ap (λ (i : ℕ). get_or (set to passed copy) i None) here ∙ get_or-set_same to passed copy None (omega (arith, within, are.long))
        ∙ same ∙ ap (λ (i : ℕ). get_or from i None) (sym here)
    | inr other ↦ get_or-set_other to passed k copy None other ∙ are.before k (omega (arith, below, other))
  ];
  after = λ k above. get_or-set_other to passed k copy None (λ here. omega (arith, above, here)) ∙ are.after k (omega (arith, above));
}

-- all are, as none stands behind
pub IsCopiedTo-end : {from to : Slots} (last : ℕ) {passed : ℕ} → IsCopiedTo from to passed → HasNoIdAbove last from → last ≤ passed → to ≡ from
IsCopiedTo-end {from} {to} last {passed} are none past = same_lists to from are.long each
  where
    there : (k : ℕ) → get_or to k None ≡ get_or from k None
    there k = elim (cases_lt k passed) [
      | inl below ↦ are.before k below
      | inr above ↦ are.after k above ∙ sym (none (suc k) (omega (arith, above, past)))
    ]

    each : (k : ℕ) (d : Option Entry) → k < length to → get_or to k d ≡ get_or from k d
    each k d here = sym (get_or_default to k None d here) ∙ there k ∙ get_or_default from k None d (omega (arith, here, are.long))
