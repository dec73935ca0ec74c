-- The map of extension ids: what an id stands for once slots have changed.
use Rattle.rtp_ext.proofs.Common.{◌≡◌, ◌≢◌, ℕ, ◌+◌, ◌<◌, inl, inr, suc, zero, List, ◌∷◌, length, map, drop, get_or, Option, Some, None, arith, ap, refl, sym, ◌∙◌, subst, ◌==◌, if◌then◌else◌, get_or_past, length-map, get_or-map, drop-cons, option_map, cases_lt, eq-eqb, ne_eqb, eqb_tells, Extension, Puts, Swaps, Entry, Slots, IsEmpty, IsId, entry_at, extension_at, extension_of, Sets, Exchanges, IsRenumbered, IsLocked, IsLockedAt, locked, IsLowest, Remaps, AreRemapped, same_slot, moved}

-- nothing stands in a index where nothing does in any
pub IsEmpty-from_each : (slots : Slots) → ((k : ℕ) → k < length slots → get_or slots k None ≡ None) → IsEmpty slots
IsEmpty-from_each slots each zero = refl
IsEmpty-from_each slots each (suc k) = elim (cases_lt k (length slots)) [
  | inl here ↦ each k here
  | inr past ↦ get_or_past slots k None past
]

-- the id of a index is one more than the index
pub entry_at-slot : (slots : Slots) (k id : ℕ) → k + 1 ≡ id → entry_at slots id ≡ get_or slots k None
entry_at-slot slots k zero is = absurd (omega arith)
entry_at-slot slots k (suc j) is = ap (λ (index : ℕ). get_or slots index None) (omega arith)

-- two lists that differ in one index
pub entry_at-other : (slots new : Slots) (index : ℕ) {id : ℕ} → index + 1 ≡ id
    → ((k : ℕ) → k ≢ index → get_or new k None ≡ get_or slots k None)
    → (j : ℕ) → j ≢ id → entry_at new j ≡ entry_at slots j
entry_at-other slots new index is same zero other = refl
entry_at-other slots new index is same (suc j) other = same j (λ here. other (omega arith))

-- the number with two exchanged
exchanged : ℕ → ℕ → ℕ → ℕ
exchanged a b n = if n == a then b else if n == b then a else n

exchanged-first : (a b n : ℕ) → n ≡ a → exchanged a b n ≡ b
unfolding exchanged
exchanged-first a b n is = rw (eq-eqb n a is) refl

exchanged-second : (a b n : ℕ) → n ≢ a → n ≡ b → exchanged a b n ≡ a
unfolding exchanged
exchanged-second a b n isnt is = rw (ne_eqb n a isnt, eq-eqb n b is) refl

exchanged-other : (a b n : ℕ) → n ≢ a → n ≢ b → exchanged a b n ≡ n
unfolding exchanged
exchanged-other a b n isnt isnt_either = rw (ne_eqb n a isnt, ne_eqb n b isnt_either) refl

exchanged-twice : (a b n : ℕ) → a ≢ b → exchanged a b (exchanged a b n) ≡ n
exchanged-twice a b n apart = elim (eqb_tells n a) [
  | inl is ↦ ap (exchanged a b) (exchanged-first a b n is.1) ∙ (exchanged-second a b b (λ same. apart (sym same)) refl ∙ sym is.1)
  | inr isnt ↦ elim (eqb_tells n b) [
    | inl is ↦ ap (exchanged a b) (exchanged-second a b n isnt.1 is.1) ∙ (exchanged-first a b a refl ∙ sym is.1)
    | inr isnt_either ↦
        ap (exchanged a b) (exchanged-other a b n isnt.1 isnt_either.1) ∙ exchanged-other a b n isnt.1 isnt_either.1
  ]
]

-- nothing changed
pub IsRenumbered-same : (old new : Slots) → new ≡ old → IsRenumbered old new
IsRenumbered-same old new is = record {
  moved = λ id. id;
  back = λ id. id;
  once = λ id. refl;
  onto = λ id. refl;
  extensions = λ id. ap (λ (slots : Slots). extension_at slots id) is;
  locks = λ id is_locked. subst (λ (slots : Slots). IsLockedAt slots id) (sym is) is_locked;
}

-- one change after another
pub IsRenumbered-then : (old between new : Slots) → IsRenumbered old between → IsRenumbered between new → IsRenumbered old new
IsRenumbered-then old between new first second = record {
  moved = λ id. second.moved (first.moved id);
  back = λ id. first.back (second.back id);
  once = λ id. ap first.back (second.once (first.moved id)) ∙ first.once id;
  onto = λ id. ap second.moved (first.onto (second.back id)) ∙ second.onto id;
  extensions = λ id. second.extensions (first.moved id) ∙ first.extensions id;
  locks = λ id is_locked. second.locks (first.moved id) (first.locks id is_locked);
}

locked-at : (slots : Slots) (id : ℕ) (extension : Extension) → entry_at slots id ≡ Some (locked extension) → IsLockedAt slots id
locked-at slots id extension is = subst IsLocked (sym is) refl

-- an entry is locked where it is
pub IsRenumbered-locked : {old new : Slots} {id : ℕ} (extension : Extension) → extension_at old id ≡ Some extension
    → Sets old new id (locked extension) → IsRenumbered old new
IsRenumbered-locked {old} {new} {id} extension was sets = record {
  moved = λ j. j;
  back = λ j. j;
  once = λ j. refl;
  onto = λ j. refl;
  extensions = λ j. elim (eqb_tells j id) [
    | inl is ↦ ap (extension_at new) is.1 ∙ (ap extension_of sets.this ∙ (sym was ∙ ap (extension_at old) (sym is.1)))
    | inr isnt ↦ ap extension_of (sets.others j isnt.1)
  ];
  locks = λ j is_locked. elim (eqb_tells j id) [
    | inl is ↦ locked-at new j extension (ap (entry_at new) is.1 ∙ sets.this)
    | inr isnt ↦ subst IsLocked (sym (sets.others j isnt.1)) is_locked
  ];
}

-- two entries change slots, and the first is locked now
pub IsRenumbered-exchanged : {old new : Slots} {from to : ℕ} {extension : Extension} → from ≢ to
    → extension_at old from ≡ Some extension → Exchanges old new from to extension → IsRenumbered old new
IsRenumbered-exchanged {old} {new} {from} {to} {extension} apart was change = record {
  moved = exchanged from to;
  back = exchanged from to;
  once = λ j. exchanged-twice from to j apart;
  onto = λ j. exchanged-twice from to j apart;
  extensions = λ j. elim (eqb_tells j from) [
    | inl is ↦ ap (extension_at new) (exchanged-first from to j is.1)
        ∙ (ap extension_of change.here ∙ (sym was ∙ ap (extension_at old) (sym is.1)))
    | inr isnt ↦ elim (eqb_tells j to) [
      | inl is ↦ ap (extension_at new) (exchanged-second from to j isnt.1 is.1)
          ∙ (ap extension_of change.there ∙ ap (extension_at old) (sym is.1))
      | inr isnt_either ↦ ap (extension_at new) (exchanged-other from to j isnt.1 isnt_either.1)
          ∙ ap extension_of (change.others j isnt.1 isnt_either.1)
    ]
  ];
  locks = λ j is_locked. elim (eqb_tells j from) [
    | inl is ↦ locked-at new _ extension (ap (entry_at new) (exchanged-first from to j is.1) ∙ change.here)
    | inr isnt ↦ elim (eqb_tells j to) [
      | inl is ↦ subst IsLocked
          (ap (entry_at old) is.1 ∙ (sym change.there ∙ ap (entry_at new) (sym (exchanged-second from to j isnt.1 is.1)))) is_locked
      | inr isnt_either ↦ subst IsLocked
          (sym (change.others j isnt.1 isnt_either.1) ∙ ap (entry_at new) (sym (exchanged-other from to j isnt.1 isnt_either.1))) is_locked
    ]
  ];
}

-- an extension with its entry locked
pub lock-of : (slot : Option Entry) (extension : Extension) → extension_of slot ≡ Some extension
    → option_map (λ entry. locked entry.extension) slot ≡ Some (locked extension)
lock-of None extension is = cc
lock-of (Some entry) extension is = ap (option_map locked) is

-- what a step of a renegotiation leaves
pub record IsStep (old new : Slots) (id : ℕ) (extension : Extension) : Type 0 where
  pub step : Remaps old id extension new
  pub renumbered : IsRenumbered old new

-- the entry of the lowest id is locked where it is
pub IsStep-locked : {old : Slots} (new : Slots) {id : ℕ} {extension : Extension} → IsId id → IsLowest old extension id
    → Puts old new id (option_map (λ entry. locked entry.extension) (entry_at old id)) → IsStep old new id extension
IsStep-locked {old} new {id} {extension} is_id lowest puts =
    let sets : Sets old new id (locked extension) = record {
      this = puts.this ∙ lock-of (entry_at old id) extension lowest.mapped;
      others = puts.others;
    } in
    record {
      step = same_slot is_id lowest sets;
      renumbered = IsRenumbered-locked extension lowest.mapped sets;
    }

-- it is put in the place of the entry in its way, and locked there
pub IsStep-moved : {old between new : Slots} {from id : ℕ} {extension : Extension} → IsId id → IsLowest old extension from → from ≢ id
    → (IsLockedAt old from → ⊥) → Swaps old between from id → Puts between new id (option_map (λ entry. locked entry.extension) (entry_at between id))
    → IsStep old new id extension
IsStep-moved {old} {between} {new} {from} {id} {extension} is_id lowest apart free swaps puts =
    let exchange : Exchanges old new from id extension = record {
      here = puts.this ∙ lock-of (entry_at between id) extension (ap extension_of swaps.there ∙ lowest.mapped);
      there = puts.others from apart ∙ swaps.here;
      others = λ k not_from not_id. puts.others k not_id ∙ swaps.others k not_from not_id;
    } in
    record {
      step = moved from is_id lowest apart free exchange;
      renumbered = IsRenumbered-exchanged apart lowest.mapped exchange;
    }

-- what the items from an index on give
pub left_from : {X Y : Type 0} (f : X → Y) (items : List X) (i : ℕ) {item : X} → i < length items → item ≡ get_or items i item
    → drop i (map f items) ≡ f item ∷ drop (i + 1) (map f items)
left_from f items i {item} here is =
    let first : get_or (map f items) i (f item) ≡ f item = get_or-map f items i item ∙ ap f (sym is) in
    let next : suc i ≡ i + 1 = omega arith in
    drop-cons (map f items) i (f item) (omega (arith, here, length-map items f))
    ∙ (ap (λ s. s ∷ drop (suc i) (map f items)) first ∙ ap (λ (k : ℕ). f item ∷ drop k (map f items)) next)

-- a step more at the front of those that are left
pub AreRemapped-more : {X : Type 0} (f : X → ℕ × Extension) (steps : List X) (i : ℕ) {step : X} {old between : Slots} (new : Slots)
    → i < length steps → step ≡ get_or steps i step → Remaps old (f step).0 (f step).1 between
    → AreRemapped between (drop (i + 1) (map f steps)) new → AreRemapped old (drop i (map f steps)) new
AreRemapped-more f steps i {old} {between} new here is one rest =
    subst (λ ss. AreRemapped old ss new) (sym (left_from f steps i here is)) (between, one, rest)

-- what an id stands for, once each index has been changed alike and an empty one stays so
pub entry_at-map : (f : Option Entry → Option Entry) (slots : Slots) (id : ℕ) → f None ≡ None
    → entry_at (map f slots) id ≡ f (entry_at slots id)
entry_at-map f slots zero none = sym none
entry_at-map f slots (suc k) none = ap (get_or (map f slots) k) (sym none) ∙ get_or-map f slots k None
