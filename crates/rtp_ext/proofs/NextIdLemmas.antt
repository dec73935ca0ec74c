-- The lowest mapped id above each id, as a walk takes it and as a change of one entry sets it.
use Rattle.rtp_ext.proofs.Common.{◌≡◌, ◌≢◌, ◌⊎◌, inl, inr, ℕ, zero, suc, ◌+◌, ◌-◌, ◌<◌, ◌≤◌, List, [], ◌∷◌, length, drop, set, get_or, Option, Some, None, arith, refl, sym, ap, ◌∙◌, cases_eq, cases_lt, drop_all, drop_more, drop-drop, get_or-drop, get_or_default, option_map, extension_of_kind, subst, get_or-set_same, get_or-set_other, length-set, same_lists, Extension, Entry, Slots, IsId, true, false, entry_at, extension_at, extension_of, items_from, first_id, next_id, next_ids, is_some, map, KnownKind, entry_of_kind, slots_of}
use Rattle.rtp_ext.proofs.KindsByIdLemmas.{kind_of_id, mapped-kind, unmapped-kind}
use Rattle.rtp_ext.proofs.MapLemmas.{entry_at-slot}
use Rattle.rtp_ext.proofs.TableLemmas.{slots-long}

-- ---- the table

next_ids-from : (passed k : ℕ) (left : Slots) → get_or (next_ids passed left) k 0 ≡ first_id (items_from (passed + k) (drop k left))
next_ids-from passed zero [] = refl
next_ids-from passed (suc k) [] = refl
next_ids-from passed zero (slot ∷ left) = ap (λ (n : ℕ). first_id (items_from n (slot ∷ left))) (omega arith)
next_ids-from passed (suc k) (slot ∷ left) =
    next_ids-from (passed + 1) k left ∙ ap (λ (n : ℕ). first_id (items_from n (drop k left))) (omega arith)

pub next_ids-at : (slots : Slots) (id : ℕ) → get_or (next_ids 0 slots) id 0 ≡ next_id slots id
next_ids-at slots id =
    let here : 0 + id ≡ id = omega arith in
    next_ids-from 0 id slots ∙ ap (λ (n : ℕ). first_id (items_from n (drop id slots))) here

next_ids-long : (passed : ℕ) (left : Slots) → length (next_ids passed left) ≡ suc (length left)
next_ids-long passed [] = refl
next_ids-long passed (slot ∷ left) = ap suc (next_ids-long (passed + 1) left)

-- ---- one step of a walk

-- an id that isn't mapped is passed
pub next_id-pass : (slots : Slots) (id : ℕ) → entry_at slots (id + 1) ≡ None → next_id slots id ≡ next_id slots (id + 1)
next_id-pass slots id none = elim (cases_lt id (length slots)) [
  | inl within ↦
      ap (λ (left : Slots). first_id (items_from id left)) (drop_more slots id None within)
      ∙ ap (λ slot. first_id (items_from id (slot ∷ drop (id + 1) slots))) (sym (entry_at-slot slots id (id + 1) refl) ∙ none)
  | inr past ↦
      ap (λ (left : Slots). first_id (items_from id left)) (drop_all id slots past)
      ∙ ap (λ (left : Slots). first_id (items_from (id + 1) left)) (sym (drop_all (id + 1) slots (omega (arith, past))))
]

-- one that is mapped is the next
pub next_id-here : (slots : Slots) (id : ℕ) (entry : Entry) → id < length slots → entry_at slots (id + 1) ≡ Some entry → next_id slots id ≡ id + 1
next_id-here slots id entry within is =
    ap (λ (left : Slots). first_id (items_from id left)) (drop_more slots id None within)
    ∙ ap (λ slot. first_id (items_from id (slot ∷ drop (id + 1) slots))) (sym (entry_at-slot slots id (id + 1) refl) ∙ is)

-- a listing without a first id is empty
no-items : (passed : ℕ) (left : Slots) → first_id (items_from passed left) ≡ 0 → items_from passed left ≡ []
no-items passed [] none = refl
no-items passed (None ∷ left) none = no-items (passed + 1) left none
no-items passed (Some entry ∷ left) none = absurd (omega (arith, none))

-- where the first item of a listing stands
record IsFirstItem (passed : ℕ) (left : Slots) (next : ℕ) : Type 0 where
  k : ℕ
  entry : Entry
  place : passed + k + 1 ≡ next
  is : get_or left k None ≡ Some entry
  items : items_from passed left ≡ (next, entry.extension) ∷ items_from next (drop (suc k) left)

first-item : (passed : ℕ) (left : Slots) (next : ℕ) → next ≡ first_id (items_from passed left) → next ≢ 0 → IsFirstItem passed left next
first-item passed [] next is some = absurd (some is)
first-item passed (None ∷ left) next is some =
    let later = first-item (passed + 1) left next is some in
    record { k = suc later.k; entry = later.entry; place = omega (arith, later.place); is = later.is; items = later.items }
first-item passed (Some entry ∷ left) next is some = record {
  k = 0;
  entry = entry;
  place = omega (arith, is);
  is = refl;
  items = ap (λ (n : ℕ). (n, entry.extension) ∷ items_from n left) (sym is);
}

first : (slots : Slots) (id next : ℕ) → next ≡ next_id slots id → next ≢ 0
    → (entry : Entry) × (entry_at slots next ≡ Some entry) × (items_from id (drop id slots) ≡ (next, entry.extension) ∷ items_from next (drop next slots))
first slots id next is some =
    let found = first-item id (drop id slots) next is some in
    let there : id + suc found.k ≡ next = omega (arith, found.place) in (
      found.entry,
      entry_at-slot slots (id + found.k) next found.place ∙ sym (get_or-drop id slots found.k None) ∙ found.is,
      found.items ∙ ap (λ (left : Slots). (next, found.entry.extension) ∷ items_from next left)
          (drop-drop (suc found.k) id slots ∙ ap (λ (n : ℕ). drop n slots) there),
    )

-- what is left of a walk begins with the next id
pub left-some : (slots : Slots) (id next : ℕ) (extension : Extension) → next ≡ next_id slots id → extension_at slots next ≡ Some extension
    → items_from id (drop id slots) ≡ (next, extension) ∷ items_from next (drop next slots)
left-some slots id zero extension is mapped = cc
left-some slots id (suc k) extension is mapped =
    let found = first slots id (suc k) is (λ none. omega (arith, none)) in
    let same : found.0.extension ≡ extension = let both : Some found.0.extension ≡ Some extension = sym (ap extension_of found.1) ∙ mapped in cc in
    found.2 ∙ ap (λ (e : Extension). (suc k, e) ∷ items_from (suc k) (drop (suc k) slots)) same

-- where the next id has none, nothing is left
pub left-none : (slots : Slots) (id next : ℕ) → next ≡ next_id slots id → extension_at slots next ≡ None → items_from id (drop id slots) ≡ []
left-none slots id zero is missing = no-items id (drop id slots) (sym is)
left-none slots id (suc k) is missing =
    let found = first slots id (suc k) is (λ none. omega (arith, none)) in
    let wrong : Some found.0.extension ≡ None = sym (ap extension_of found.1) ∙ missing in
    cc

-- the same by the kind that is read at the next id
module _ (kinds shown : List (Option KnownKind)) (ids : List ℕ) (id next read : ℕ) (same : kinds ≡ shown) (padding : get_or kinds 0 None ≡ None)
    (are : ids ≡ next_ids 0 (slots_of kinds)) (is : next ≡ get_or ids id 0) (read_is : read ≡ next) where
  is_next : next ≡ next_id (slots_of kinds) id
  is_next = is ∙ ap (λ (it : List ℕ). get_or it id 0) are ∙ next_ids-at (slots_of kinds) id

  mapped_to : (found : Option KnownKind) → get_or kinds read None ≡ found → extension_at (slots_of kinds) next ≡ option_map extension_of_kind found
  mapped_to found is_kind =
      kind_of_id kinds next padding ∙ ap (λ (n : ℕ). option_map extension_of_kind (get_or kinds n None)) (sym read_is) ∙ ap (option_map extension_of_kind) is_kind

  pub left-kind : (kind : KnownKind) → get_or kinds read None ≡ Some kind
      → items_from id (drop id (slots_of shown)) ≡ (next, extension_of_kind kind) ∷ items_from next (drop next (slots_of shown))
  left-kind kind is_kind =
      let found = left-some (slots_of kinds) id next (extension_of_kind kind) is_next (mapped_to (Some kind) is_kind) in
      subst (λ (it : List (Option KnownKind)). items_from id (drop id (slots_of it)) ≡ (next, extension_of_kind kind) ∷ items_from next (drop next (slots_of it))) same found

  pub left-no_kind : get_or kinds read None ≡ None → items_from id (drop id (slots_of shown)) ≡ []
  left-no_kind none =
      subst (λ (it : List (Option KnownKind)). items_from id (drop id (slots_of it)) ≡ []) same
      (left-none (slots_of kinds) id next is_next (mapped_to None none))

-- ---- one entry is another one

-- the first id is the same where the slots up to a mapped one are
front-same : (n passed : ℕ) (left other : Slots) (entry : Entry) → get_or left n None ≡ Some entry
    → ((k : ℕ) → k ≤ n → get_or other k None ≡ get_or left k None) → first_id (items_from passed other) ≡ first_id (items_from passed left)
front-same n passed [] other entry is same = cc
front-same n passed (Some first ∷ left) [] entry is same = let wrong = same 0 (omega arith) in cc
front-same n passed (Some first ∷ left) (None ∷ other) entry is same = let wrong = same 0 (omega arith) in cc
front-same n passed (Some first ∷ left) (Some second ∷ other) entry is same = refl
front-same zero passed (None ∷ left) other entry is same = cc
front-same (suc n) passed (None ∷ left) [] entry is same = let wrong = same (suc n) (omega arith) ∙ is in cc
front-same (suc n) passed (None ∷ left) (Some second ∷ other) entry is same = let wrong = same 0 (omega arith) in cc
front-same (suc n) passed (None ∷ left) (None ∷ other) entry is same =
    front-same n (passed + 1) left other entry is (λ k low. same (suc k) (omega (arith, low)))

-- the listing is the same where the slots are
rest-same : (passed : ℕ) (left other : Slots) → ((k : ℕ) → get_or other k None ≡ get_or left k None) → items_from passed other ≡ items_from passed left
rest-same passed [] [] same = refl
rest-same passed [] (None ∷ other) same = rest-same (passed + 1) [] other (λ k. same (suc k))
rest-same passed [] (Some second ∷ other) same = let wrong = same 0 in cc
rest-same passed (None ∷ left) [] same = rest-same (passed + 1) left [] (λ k. same (suc k))
rest-same passed (Some first ∷ left) [] same = let wrong = same 0 in cc
rest-same passed (None ∷ left) (None ∷ other) same = rest-same (passed + 1) left other (λ k. same (suc k))
rest-same passed (None ∷ left) (Some second ∷ other) same = let wrong = same 0 in cc
rest-same passed (Some first ∷ left) (None ∷ other) same = let wrong = same 0 in cc
rest-same passed (Some first ∷ left) (Some second ∷ other) same =
    let both : second.extension ≡ first.extension = let entries = same 0 in cc in
    ap (λ items. (passed + 1, second.extension) ∷ items) (rest-same (passed + 1) left other (λ k. same (suc k)))
    ∙ ap (λ (e : Extension). (passed + 1, e) ∷ items_from (passed + 1) left) both

abbrev pub AreSameBut : ℕ → Slots → Slots → Type 0
AreSameBut id slots old = (k : ℕ) → k ≢ id → entry_at slots k ≡ entry_at old k

-- an id that is not below it has the next one that it had
pub next_id-above : (slots old : Slots) (id at : ℕ) → AreSameBut id slots old → id ≤ at → next_id slots at ≡ next_id old at
next_id-above slots old id at same above =
    ap first_id (rest-same at (drop at old) (drop at slots) (λ k. get_or-drop at slots k None ∙ same (suc (at + k)) (λ here. omega (arith, here, above)) ∙ sym (get_or-drop at old k None)))

-- so has one below another one that is mapped
pub next_id-front : (slots old : Slots) (id at m : ℕ) (entry : Entry) → AreSameBut id slots old → entry_at slots m ≡ Some entry → at < m → m < id
    → next_id slots at ≡ next_id old at
next_id-front slots old id at m entry same is below low =
    let place : at + (m - at - 1) + 1 ≡ m = omega (arith, below) in
    let there = get_or-drop at old (m - at - 1) None ∙ sym (entry_at-slot old (at + (m - at - 1)) m place) ∙ sym (same m (λ here. omega (arith, here, low))) ∙ is in
    front-same (m - at - 1) at (drop at old) (drop at slots) entry there
    (λ k near. get_or-drop at slots k None ∙ same (suc (at + k)) (λ here. omega (arith, here, near, below, low)) ∙ sym (get_or-drop at old k None))

-- the first item stands where it stood
first_id-alike : (passed k : ℕ) (kinds : List (Option KnownKind)) (kind seen : Option KnownKind) → is_some kind ≡ is_some (get_or kinds k seen)
    → first_id (items_from passed (map entry_of_kind (set kinds k kind))) ≡ first_id (items_from passed (map entry_of_kind kinds))
first_id-alike passed k [] kind seen alike = refl
first_id-alike passed zero (None ∷ kinds) None seen alike = refl
first_id-alike passed zero (None ∷ kinds) (Some kind) seen alike = cc
first_id-alike passed zero (Some first ∷ kinds) None seen alike = cc
first_id-alike passed zero (Some first ∷ kinds) (Some kind) seen alike = refl
first_id-alike passed (suc k) (None ∷ kinds) kind seen alike = first_id-alike (passed + 1) k kinds kind seen alike
first_id-alike passed (suc k) (Some first ∷ kinds) kind seen alike = refl

next_ids-alike : (passed k : ℕ) (kinds : List (Option KnownKind)) (kind seen : Option KnownKind) → is_some kind ≡ is_some (get_or kinds k seen)
    → next_ids passed (map entry_of_kind (set kinds k kind)) ≡ next_ids passed (map entry_of_kind kinds)
next_ids-alike passed k [] kind seen alike = refl
next_ids-alike passed zero (first ∷ kinds) kind seen alike =
    ap (λ (id : ℕ). id ∷ next_ids (passed + 1) (map entry_of_kind kinds)) (first_id-alike passed zero (first ∷ kinds) kind seen alike)
next_ids-alike passed (suc k) (first ∷ kinds) kind seen alike =
    ap (λ (id : ℕ). id ∷ next_ids (passed + 1) (map entry_of_kind (set kinds k kind))) (first_id-alike passed (suc k) (first ∷ kinds) kind seen alike)
    ∙ ap (λ (ids : List ℕ). first_id (items_from passed (map entry_of_kind (first ∷ kinds))) ∷ ids) (next_ids-alike (passed + 1) k kinds kind seen alike)

-- where the id had a kind before too, or has none now either, no next id changes
pub next_ids-kept : (kinds : List (Option KnownKind)) (id : ℕ) (kind seen : Option KnownKind) → id ≢ 0 → is_some kind ≡ is_some (get_or kinds id seen)
    → next_ids 0 (slots_of (set kinds id kind)) ≡ next_ids 0 (slots_of kinds)
next_ids-kept kinds zero kind seen some alike = absurd (some refl)
next_ids-kept [] (suc k) kind seen some alike = refl
next_ids-kept (first ∷ kinds) (suc k) kind seen some alike = next_ids-alike 0 k kinds kind seen alike

-- ---- the table, once an entry is another one

-- the ids from one on, below the changed one, have their next id, and the others what they had
pub record AreSetFrom (slots : Slots) (id : ℕ) (before now : List ℕ) (below : ℕ) : Type 0 where
  pub long : length now ≡ length before
  pub low : below ≤ id
  pub passed : (k : ℕ) → below ≤ k → k < id → get_or now k 0 ≡ next_id slots k
  pub others : (k : ℕ) → (k < below) ⊎ (id ≤ k) → get_or now k 0 ≡ get_or before k 0

pub AreSetFrom-start : (slots : Slots) (id : ℕ) (ids : List ℕ) → AreSetFrom slots id ids ids id
AreSetFrom-start slots id ids = record {
  long = refl;
  low = omega arith;
  passed = λ k above low. absurd (omega (arith, above, low));
  others = λ k other. refl;
}

pub AreSetFrom-next : (slots : Slots) (id : ℕ) (before now : List ℕ) (below to : ℕ) → AreSetFrom slots id before now below → 0 < below
    → to ≡ next_id slots (below - 1) → below - 1 < length before → AreSetFrom slots id before (set now (below - 1) to) (below - 1)
AreSetFrom-next slots id before now below to are some is within = record {
  long = length-set now (below - 1) to ∙ are.long;
  low = omega (arith, are.low);
  passed = λ k above low. elim (cases_eq k (below - 1)) [
    | inl here ↦
        ap (λ (n : ℕ). get_or (set now (below - 1) to) n 0) here ∙ get_or-set_same now (below - 1) to 0 (omega (arith, within, are.long))
        ∙ is ∙ ap (next_id slots) (sym here)
    | inr other ↦ get_or-set_other now (below - 1) k to 0 other ∙ are.passed k (omega (arith, above, other)) low
  ];
  others = λ k other.
      let apart : k ≢ below - 1 = λ here. elim other [
        | inl low ↦ omega (arith, here, low)
        | inr above ↦ omega (arith, here, above, are.low, some)
      ] in
      get_or-set_other now (below - 1) k to 0 apart ∙ are.others k (elim other [
        | inl low ↦ inl (omega (arith, low))
        | inr above ↦ inr above
      ]);
}

-- the next id is that of the ids below too, down to a mapped one
pub next_id-lower : (slots : Slots) (below to : ℕ) → 0 < below → entry_at slots below ≡ None → to ≡ next_id slots below → to ≡ next_id slots (below - 1)
next_id-lower slots zero to some none is = absurd (omega (arith, some))
next_id-lower slots (suc k) to some none is =
    let next : k + 1 ≡ suc k = omega arith in
    let here : k ≡ suc k - 1 = omega arith in
    is ∙ ap (next_id slots) (sym next) ∙ sym (next_id-pass slots k (ap (entry_at slots) next ∙ none)) ∙ ap (next_id slots) here

-- each id has its next one, once that of a mapped id is set
pub AreSetFrom-end : (slots old : Slots) (id : ℕ) (before now : List ℕ) (below : ℕ) → AreSetFrom slots id before now below
    → (0 < below → (entry : Entry) × (entry_at slots below ≡ Some entry)) → below < id → length before ≡ suc (length slots)
    → AreSameBut id slots old → before ≡ next_ids 0 old → now ≡ next_ids 0 slots
AreSetFrom-end slots old id before now below are mapped low long same was =
    same_lists now (next_ids 0 slots) (are.long ∙ long ∙ sym (next_ids-long 0 slots)) (λ k d here.
    sym (get_or_default now k 0 d here) ∙ each k ∙ sym (next_ids-at slots k)
    ∙ get_or_default (next_ids 0 slots) k 0 d (omega (arith, here, are.long, long, next_ids-long 0 slots)))
  where
    had : (k : ℕ) → get_or before k 0 ≡ next_id old k
    had k = ap (λ (ids : List ℕ). get_or ids k 0) was ∙ next_ids-at old k

    each : (k : ℕ) → get_or now k 0 ≡ next_id slots k
    each k = elim (cases_lt k id) [
      | inr above ↦ are.others k (inr above) ∙ had k ∙ sym (next_id-above slots old id k same above)
      | inl under ↦ elim (cases_lt k below) [
        | inr passed ↦ are.passed k passed under
        | inl front ↦
            let entry = mapped (omega (arith, front)) in
            are.others k (inl front) ∙ had k ∙ sym (next_id-front slots old id k below entry.0 same entry.1 front low)
      ]
    ]

-- the first of them has the id itself, where it has a kind now
pub first-some : (kinds : List (Option KnownKind)) (id : ℕ) (seen : Option KnownKind) → length kinds ≡ 256 → IsId id → is_some (get_or kinds id seen) ≡ true
    → id ≡ next_id (slots_of kinds) (id - 1)
first-some kinds id seen many is_id there =
    let entry = mapped-kind kinds id seen (omega (arith, is_id.0)) (omega (arith, is_id.1, many)) there in
    let next : id - 1 + 1 ≡ id = omega (arith, is_id.0) in
    sym (next_id-here (slots_of kinds) (id - 1) entry.0 (omega (arith, is_id.0, is_id.1, slots-long kinds many)) (ap (entry_at (slots_of kinds)) next ∙ entry.1) ∙ next)

-- and else what followed it
pub first-none : (kinds : List (Option KnownKind)) (old : Slots) (before : List ℕ) (id to : ℕ) (seen : Option KnownKind) → length kinds ≡ 256 → IsId id
    → is_some (get_or kinds id seen) ≡ false → AreSameBut id (slots_of kinds) old → before ≡ next_ids 0 old → to ≡ get_or before id 0
    → to ≡ next_id (slots_of kinds) (id - 1)
first-none kinds old before id to seen many is_id missing same was is =
    next_id-lower (slots_of kinds) id to (omega (arith, is_id.0)) (unmapped-kind kinds id seen (omega (arith, is_id.1, many)) missing)
    (is ∙ ap (λ (ids : List ℕ). get_or ids id 0) was ∙ next_ids-at old id ∙ sym (next_id-above (slots_of kinds) old id id same (omega arith)))
