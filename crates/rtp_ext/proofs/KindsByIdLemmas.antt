-- The known extensions by their ids: what a table of kinds shows, and what the known extensions of a map read.
use Rattle.rtp_ext.proofs.Common.{option_map, extension_of_kind, ◌≡◌, ℕ, ◌+◌, ◌-◌, suc, zero, List, [], ◌∷◌, length, map, replicate, set, get_or, Option, Some, None, All, arith, ap, refl, sym, ◌∙◌, subst, get_or-map, swap, swap_is, get_or_default, get_or-set_other, ◌≢◌, map-set, ◌<◌, is_some, true, false, unlocked, Extension, UnknownUri, VideoLayersAllocation, KnownKind, ExtensionValues, IsKnown, IsWellFormed, one_kind, Element, Entry, Slots, IsEmpty, IsId, entry_at, extension_at, extension_of, entry_of_kind, slots_of, known_alone, known_entry, known_slots, Carries, AreFields, last, none, AreValues, ReadElements, HasAllocation, ReadUntilRefused, All-weaker}
use Rattle.rtp_ext.proofs.MapLemmas.{entry_at-map}
use Rattle.rtp_ext.proofs.TableLemmas.{slots-long}

-- ---- the table

-- the entry of an id
pub entry_at-kinds : (kinds : List (Option KnownKind)) (k : ℕ) → entry_at (slots_of kinds) (suc k) ≡ entry_of_kind (get_or kinds (suc k) None)
entry_at-kinds [] k = refl
entry_at-kinds (kind ∷ kinds) k = get_or-map entry_of_kind kinds k None

-- the extension of an id, by its kind
pub kind_at : (kinds : List (Option KnownKind)) (k : ℕ) (kind : Option KnownKind) → get_or kinds (k + 1) None ≡ kind
    → extension_at (slots_of kinds) (k + 1) ≡ option_map extension_of_kind kind
kind_at kinds k kind is =
    let next : k + 1 ≡ suc k = omega arith in
    ap (extension_at (slots_of kinds)) next ∙ ap extension_of (entry_at-kinds kinds k)
    ∙ ap (λ (n : ℕ). extension_of (entry_of_kind (get_or kinds n None))) (sym next) ∙ ap (λ (it : Option KnownKind). extension_of (entry_of_kind it)) is
    ∙ of_entry kind
  where
    of_entry : (kind : Option KnownKind) → extension_of (entry_of_kind kind) ≡ option_map extension_of_kind kind
    of_entry None = refl
    of_entry (Some it) = refl

-- the extension of any id
pub kind_of_id : (kinds : List (Option KnownKind)) (id : ℕ) → get_or kinds 0 None ≡ None
    → extension_at (slots_of kinds) id ≡ option_map extension_of_kind (get_or kinds id None)
kind_of_id kinds zero padding = ap (option_map extension_of_kind) (sym padding)
kind_of_id kinds (suc k) padding = ap extension_of (entry_at-kinds kinds k) ∙ of_entry (get_or kinds (suc k) None)
  where
    of_entry : (kind : Option KnownKind) → extension_of (entry_of_kind kind) ≡ option_map extension_of_kind kind
    of_entry None = refl
    of_entry (Some it) = refl

-- an id that has a kind, and one that has none
pub mapped-kind : (kinds : List (Option KnownKind)) (id : ℕ) (seen : Option KnownKind) → 0 < id → id < length kinds → is_some (get_or kinds id seen) ≡ true
    → (entry : Entry) × (entry_at (slots_of kinds) id ≡ Some entry)
mapped-kind kinds zero seen some within there = absurd (omega (arith, some))
mapped-kind kinds (suc k) seen some within there =
    let found = kind_of (get_or kinds (suc k) seen) there in
    (unlocked (extension_of_kind found.0), entry_at-kinds kinds k ∙ ap entry_of_kind (get_or_default kinds (suc k) None seen within ∙ found.1))
  where
    kind_of : (kind : Option KnownKind) → is_some kind ≡ true → (found : KnownKind) × (kind ≡ Some found)
    kind_of None there = cc
    kind_of (Some kind) there = (kind, refl)

pub unmapped-kind : (kinds : List (Option KnownKind)) (id : ℕ) (seen : Option KnownKind) → id < length kinds → is_some (get_or kinds id seen) ≡ false
    → entry_at (slots_of kinds) id ≡ None
unmapped-kind kinds zero seen within missing = refl
unmapped-kind kinds (suc k) seen within missing =
    entry_at-kinds kinds k ∙ ap entry_of_kind (get_or_default kinds (suc k) None seen within ∙ no_kind (get_or kinds (suc k) seen) missing)
  where
    no_kind : (kind : Option KnownKind) → is_some kind ≡ false → kind ≡ None
    no_kind None missing = refl
    no_kind (Some kind) missing = cc

-- the slots are the old ones, except for that of the id
pub slots_of-put : (kinds : List (Option KnownKind)) (id : ℕ) (kind : Option KnownKind) → IsId id
    → slots_of (set kinds id kind) ≡ set (slots_of kinds) (id - 1) (entry_of_kind kind)
slots_of-put kinds zero kind is_id = absurd (omega (arith, is_id.0))
slots_of-put [] (suc k) kind is_id = refl
slots_of-put (first ∷ kinds) (suc k) kind is_id =
    let index : k ≡ suc k - 1 = omega arith in
    map-set entry_of_kind kinds k kind ∙ ap (λ (i : ℕ). set (map entry_of_kind kinds) i (entry_of_kind kind)) index

pub slots_of-others : (kinds : List (Option KnownKind)) (at id : ℕ) (kind : Option KnownKind) → at ≡ id
    → (k : ℕ) → k ≢ id → entry_at (slots_of (set kinds at kind)) k ≡ entry_at (slots_of kinds) k
slots_of-others kinds at id kind is zero other = refl
slots_of-others kinds at id kind is (suc k) other =
    entry_at-kinds (set kinds at kind) k ∙ ap entry_of_kind (get_or-set_other kinds at (suc k) kind None (λ here. other (here ∙ is))) ∙ sym (entry_at-kinds kinds k)

pub slots_of-set_slots : (kinds old : List (Option KnownKind)) (at id : ℕ) (kind : Option KnownKind) → at ≡ id → kinds ≡ old → IsId id
    → slots_of (set kinds at kind) ≡ set (slots_of old) (id - 1) (entry_of_kind kind)
slots_of-set_slots kinds old at id kind is shows is_id =
    ap (λ (n : ℕ). slots_of (set kinds n kind)) is ∙ slots_of-put kinds id kind is_id
    ∙ ap (λ (ks : List (Option KnownKind)). set (slots_of ks) (id - 1) (entry_of_kind kind)) shows

-- the slot of an id's kind
slot_at : (kinds : List (Option KnownKind)) (id : ℕ) → IsId id → entry_of_kind (get_or kinds id None) ≡ get_or (slots_of kinds) (id - 1) None
slot_at kinds zero is_id = absurd (omega (arith, is_id.0))
slot_at kinds (suc k) is_id =
    let index : k ≡ suc k - 1 = omega arith in
    sym (entry_at-kinds kinds k) ∙ ap (λ (i : ℕ). get_or (slots_of kinds) i None) index

-- the kinds of two ids, each put in the other's place
pub slots_of-swapped : (kinds : List (Option KnownKind)) (from to : ℕ) → length kinds ≡ 256 → IsId from → IsId to
    → set (set (slots_of kinds) (from - 1) (entry_of_kind (get_or kinds to None))) (to - 1) (entry_of_kind (get_or kinds from None))
    ≡ swap (slots_of kinds) (from - 1) (to - 1)
slots_of-swapped kinds from to many is_from is_to =
    ap (λ (slot : Option Entry). set (set (slots_of kinds) (from - 1) slot) (to - 1) (entry_of_kind (get_or kinds from None))) (slot_at kinds to is_to)
    ∙ ap (set (set (slots_of kinds) (from - 1) (get_or (slots_of kinds) (to - 1) None)) (to - 1)) (slot_at kinds from is_from)
    ∙ swap_is (slots_of kinds) (from - 1) (to - 1) None (omega (arith, is_from.0, is_from.1, slots-long kinds many)) (omega (arith, is_to.0, is_to.1, slots-long kinds many))

kinds-none : (n : ℕ) → map entry_of_kind (replicate n None) ≡ replicate n None
kinds-none zero = refl
kinds-none (suc n) = ap (λ (slots : Slots). None ∷ slots) (kinds-none n)

pub slots_of-replicate : (n : ℕ) → slots_of (replicate (suc n) None) ≡ replicate n None
slots_of-replicate n = kinds-none n

later-IsEmpty : (slot : Option Entry) (slots : Slots) → IsEmpty (slot ∷ slots) → IsEmpty slots
later-IsEmpty slot slots empty zero = refl
later-IsEmpty slot slots empty (suc k) = empty (suc (suc k))

-- an empty map has no known extensions
pub known_slots-empty : (n : ℕ) (slots : Slots) → length slots ≡ n → IsEmpty slots → replicate n None ≡ known_slots slots
known_slots-empty zero [] long empty = refl
known_slots-empty zero (slot ∷ slots) long empty = cc
known_slots-empty (suc n) [] long empty = cc
known_slots-empty (suc n) (slot ∷ slots) long empty =
    ap (λ (others : Slots). None ∷ others) (known_slots-empty n slots (omega (arith, long)) (later-IsEmpty slot slots empty))
    ∙ ap (λ (first : Option Entry). first ∷ known_slots slots) (sym (ap known_entry (empty 1)))

-- ---- the known extensions of a map

known_alone-known : (extension : Extension) → IsKnown extension → extension_of (known_alone extension) ≡ Some extension
known_alone-known (UnknownUri uri) known = absurd known
known_alone-known _ known = refl

known_alone-back : (extension kind : Extension) → extension_of (known_alone extension) ≡ Some kind → Some extension ≡ Some kind
known_alone-back (UnknownUri uri) kind is = cc
known_alone-back _ kind is = is

-- one slot of a map is set, and so is that of the table which is in step with it
pub known_slots-put : (slots table new : Slots) (k id : ℕ) (slot put : Option Entry) → table ≡ known_slots slots → k + 1 ≡ id
    → new ≡ set table (id - 1) put → put ≡ known_entry slot → new ≡ known_slots (set slots k slot)
known_slots-put slots table new k id slot put in_step is new_is put_is =
    let index : id - 1 ≡ k = omega (arith, is) in
    new_is ∙ ap (λ (i : ℕ). set table i put) index ∙ ap (λ (t : Slots). set t k put) in_step ∙ ap (set (known_slots slots) k) put_is
    ∙ sym (map-set known_entry slots k slot)

known_entry-keeps : (slot : Option Entry) (kind : Extension) → IsKnown kind → extension_of slot ≡ Some kind → extension_of (known_entry slot) ≡ Some kind
known_entry-keeps None kind known is = cc
known_entry-keeps (Some entry) kind known is =
    subst (λ (k : Extension). extension_of (known_alone k) ≡ Some kind) (sym (one_kind is)) (known_alone-known kind known)

known_entry-back : (slot : Option Entry) (kind : Extension) → extension_of (known_entry slot) ≡ Some kind → extension_of slot ≡ Some kind
known_entry-back None kind is = is
known_entry-back (Some entry) kind is = known_alone-back entry.extension kind is

pub known_slots-keep : (exts : Slots) (id : ℕ) (kind : Extension) → IsKnown kind → extension_at exts id ≡ Some kind → extension_at (known_slots exts) id ≡ Some kind
known_slots-keep exts id kind known is = ap extension_of (entry_at-map known_entry exts id refl) ∙ known_entry-keeps (entry_at exts id) kind known is

pub known_slots-back : (exts : Slots) (id : ℕ) (kind : Extension) → extension_at (known_slots exts) id ≡ Some kind → extension_at exts id ≡ Some kind
known_slots-back exts id kind is = known_entry-back (entry_at exts id) kind (sym (ap extension_of (entry_at-map known_entry exts id refl)) ∙ is)

-- ---- what they read

well_formed-known : (kind : Extension) (bytes : List ℕ) → IsWellFormed kind bytes → IsKnown kind
well_formed-known (UnknownUri uri) bytes well_formed = absurd well_formed.1
well_formed-known _ bytes well_formed = tt

Carries-known : (exts : Slots) (kind : Extension) (element : Element) → Carries exts kind element → Carries (known_slots exts) kind element
Carries-known exts kind element carries =
    (known_slots-keep exts element.0 kind (well_formed-known kind element.1 carries.1) carries.0, carries.1)

none-known : (exts : Slots) (kind : Extension) (elements : List Element) → All (λ e. Carries (known_slots exts) kind e → ⊥) elements
    → All (λ e. Carries exts kind e → ⊥) elements
none-known exts kind elements all =
    All-weaker (λ e. Carries (known_slots exts) kind e → ⊥) (λ e. Carries exts kind e → ⊥) (λ element not_carried carries. not_carried (Carries-known exts kind element carries)) elements all

pub AreFields-known : (exts : Slots) (elements : List Element) (kind : Extension) (old new : ExtensionValues) → AreFields (known_slots exts) elements kind old new
    → AreFields exts elements kind old new
AreFields-known exts elements kind old new (last before after element is mapped reads later) =
    last before after element is (known_slots-back exts element.0 kind mapped) reads (none-known exts kind after later)
AreFields-known exts elements kind old new (none not_carried same) = none (none-known exts kind elements not_carried) same

pub AreValues-known : (exts known : Slots) (elements : List Element) (old new : ExtensionValues) → known ≡ known_slots exts
    → AreValues known elements old new → AreValues exts elements old new
AreValues-known exts known elements old new is values kind =
    AreFields-known exts elements kind old new (subst (λ (slots : Slots). AreFields slots elements kind old new) is (values kind))

pub HasAllocation-known : (exts known : Slots) (elements : List Element) → known ≡ known_slots exts → HasAllocation known elements → HasAllocation exts elements
HasAllocation-known exts known elements is has = record {
  before = has.before;
  element = has.element;
  after = has.after;
  elements_are = has.elements_are;
  is_allocation = (
    known_slots-back exts has.element.0 _ (ap (λ (slots : Slots). extension_at slots has.element.0) (sym is) ∙ has.is_allocation.0),
    has.is_allocation.1,
  );
  begins_row = λ earlier previous in_front allocation. has.begins_row earlier previous in_front (
    ap (λ (slots : Slots). extension_at slots previous.0) is ∙ known_slots-keep exts previous.0 VideoLayersAllocation tt allocation.0,
    allocation.1,
  );
}

pub ReadElements-known : {V : Type 0} (Shows : V → ExtensionValues → Type 0) (exts known : Slots) (elements : List Element) (old new : V)
    → known ≡ known_slots exts → ReadElements Shows known elements old new → ReadElements Shows exts elements old new
ReadElements-known Shows exts known elements old new is values before shows =
    let read = values before shows in
    (read.0, read.1, AreValues-known exts known elements before read.0 is read.2)

pub ReadUntilRefused-known : {V : Type 0} (Shows : V → ExtensionValues → Type 0) (exts known : Slots) (elements : List Element) (old new : V)
    → known ≡ known_slots exts → ReadUntilRefused Shows known elements old new → ReadUntilRefused Shows exts elements old new
unfolding HasAllocation-known
ReadUntilRefused-known Shows exts known elements old new is stopped = record {
  at = HasAllocation-known exts known elements is stopped.at;
  values_are = ReadElements-known Shows exts known stopped.at.before old new is stopped.values_are;
}
