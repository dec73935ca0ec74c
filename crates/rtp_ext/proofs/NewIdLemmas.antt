-- The ids that elements have under another map, and what a form can carry of them.
use Rattle.rtp_ext.proofs.Common.{◌≡◌, ℕ, zero, suc, ◌≤◌, ◌<◌, List, [], ◌∷◌, length, Bool, true, ◌&&◌, Option, Some, None, IfSome, All, ◌+◌, get_or, set, map, length-set, nat_le, ◌↔◌, inl, inr, IsTrue, arith, refl, sym, ap, ◌∙◌, subst, AllByRecursion, filter_map, list_all, and_parts, leb-true, le-leb, cases_lt, get_or-map, get_or_past, get_or-set_same, get_or-set_other, map-set, length-map, All-nil, All-cons, All-head, All-tail, Extension, one_kind, ExtensionsForm, OneByte, TwoByte, Element, IsElement, IsPiece, AreElements, CanRenumber, Slots, IsId, IsLowest, entry_at, extension_at, extension_of, HasNoIdAbove, AreNewBytes, new_id, IsNewId, AreNewIds, CarriesExtensions, id_in_byte, ids_in_bytes, byte_of_id, carries_id}

-- ---- what a form can carry

-- each element of a body is one of the form
are_elements : (form : ExtensionsForm) (pieces : List (Option Element)) → AllByRecursion (IsPiece form) pieces
    → All (IsElement form) (filter_map (λ (piece : Option Element). piece) pieces)
are_elements form [] are = All-nil (IsElement form)
are_elements form (None ∷ pieces) are = are_elements form pieces are.1
are_elements form (Some element ∷ pieces) are =
    All-cons (IsElement form) element (filter_map (λ (piece : Option Element). piece) pieces) are.0 (are_elements form pieces are.1)

pub All-IsElement : (form : ExtensionsForm) (body : List ℕ) (elements : List Element) → AreElements form body elements → All (IsElement form) elements
All-IsElement form body elements are = subst (All (IsElement form)) (sym are.elements_are) (are_elements form are.pieces are.are_pieces)

carried_one : (form : ExtensionsForm) (element : Element) (id : Option ℕ) → ((new : ℕ) → id ≡ Some new → IsId new) → IsElement form element
    → (carries_id form id ≡ true) ↔ IfSome id (λ new. IsElement form (new, element.1))
carried_one form element None valid is = (λ test. tt, λ can. refl)
carried_one OneByte element (Some new) valid is =
    let above : IsId new = valid new refl in
    (λ test. (leb-true new 14 test, is.1, is.2, omega arith), λ can. le-leb new 14 can.0)
carried_one TwoByte element (Some new) valid is =
    let above : IsId new = valid new refl in
    (λ test. (above.0, above.1, is.2), λ can. refl)

carried_all : (form : ExtensionsForm) (ids : ℕ → Option ℕ) (elements : List Element) → ((id new : ℕ) → ids id ≡ Some new → IsId new) → All (IsElement form) elements
    → list_all (λ (e : Element). carries_id form (ids e.0)) elements ≡ true → All (CanRenumber form ids) elements
carried_all form ids [] valid are all = All-nil (CanRenumber form ids)
carried_all form ids (e ∷ elements) valid are all =
    let parts = and_parts (carries_id form (ids e.0)) (list_all (λ (e : Element). carries_id form (ids e.0)) elements) all in
    All-cons (CanRenumber form ids) e elements ((carried_one form e (ids e.0) (valid e.0) (All-head (IsElement form) e elements are)).0 parts.0)
    (carried_all form ids elements valid (All-tail (IsElement form) e elements are) parts.1)

all_carried : (form : ExtensionsForm) (ids : ℕ → Option ℕ) (elements : List Element) → ((id new : ℕ) → ids id ≡ Some new → IsId new) → All (IsElement form) elements
    → All (CanRenumber form ids) elements → list_all (λ (e : Element). carries_id form (ids e.0)) elements ≡ true
all_carried form ids [] valid are can = refl
all_carried form ids (e ∷ elements) valid are can =
    ap (λ b. b && list_all (λ (e : Element). carries_id form (ids e.0)) elements)
    ((carried_one form e (ids e.0) (valid e.0) (All-head (IsElement form) e elements are)).1 (All-head (CanRenumber form ids) e elements can))
    ∙ all_carried form ids elements valid (All-tail (IsElement form) e elements are) (All-tail (CanRenumber form ids) e elements can)

pub carried-CanRenumber : {form : ExtensionsForm} (ids : ℕ → Option ℕ) {body : List ℕ} {elements : List Element} {carried : Bool}
    → ((id new : ℕ) → ids id ≡ Some new → IsId new) → AreElements form body elements → carried ≡ list_all (λ (e : Element). carries_id form (ids e.0)) elements
    → IsTrue carried ↔ All (CanRenumber form ids) elements
carried-CanRenumber {form} ids {body} {elements} valid are is =
    let all : All (IsElement form) elements = All-IsElement form body elements are in
    (λ test. carried_all form ids elements valid all (sym is ∙ test), λ can. is ∙ all_carried form ids elements valid all can)

-- the two-byte form can carry every id
pub two_byte-carried : (ids : ℕ → Option ℕ) (elements : List Element) → true ≡ list_all (λ (e : Element). carries_id TwoByte (ids e.0)) elements
two_byte-carried ids [] = refl
two_byte-carried ids (e ∷ elements) = two_byte-carried ids elements ∙ ap (λ b. b && list_all (λ (e : Element). carries_id TwoByte (ids e.0)) elements) (sym (every (ids e.0)))
  where
    every : (id : Option ℕ) → carries_id TwoByte id ≡ true
    every None = refl
    every (Some id) = refl

-- ---- the table

-- an id that a map has
pub HasNoIdAbove-length : (slots : Slots) → length slots ≡ 255 → HasNoIdAbove 255 slots
HasNoIdAbove-length slots long = λ id above. past slots id long above
  where
    past : (slots : Slots) (id : ℕ) → length slots ≡ 255 → 255 < id → entry_at slots id ≡ None
    past slots zero long above = absurd (omega arith)
    past slots (suc k) long above = get_or_past slots k None (omega arith)

-- the ids below an id have their new ids in the table
pub record HasNewIdsTo (from to : Slots) (ids : List (Option ℕ)) (passed : ℕ) : Type 0 where
  pub long : length ids ≡ 256
  pub no_others : 0 < passed → HasNoIdAbove 255 from
  pub new : (id : ℕ) (e : Option ℕ) → id < passed → IsNewId from to id (get_or ids id e)
  pub valid : (id : ℕ) (e : Option ℕ) → id < passed → IfSome (get_or ids id e) IsId

pub HasNewIdsTo-start : (from to : Slots) (ids : List (Option ℕ)) → length ids ≡ 256 → HasNewIdsTo from to ids 0
HasNewIdsTo-start from to ids long = record {
  long = long;
  no_others = λ below. absurd (omega arith);
  new = λ id e below. absurd (omega arith);
  valid = λ id e below. absurd (omega arith);
}

set_each : (P : ℕ → Option ℕ → Type 0) (ids : List (Option ℕ)) (passed : ℕ) (new : Option ℕ) → passed < length ids
    → ((k : ℕ) (e : Option ℕ) → k < passed → P k (get_or ids k e)) → P passed new → (k : ℕ) (e : Option ℕ) → k < passed + 1 → P k (get_or (set ids passed new) k e)
set_each P ids passed new within before here k e below = elim (cases_lt k passed) [
  | inl earlier ↦ subst (P k) (sym (get_or-set_other ids passed k new e (omega arith))) (before k e earlier)
  | inr later ↦
      let same : passed ≡ k = omega arith in
      subst (λ i. P i (get_or (set ids passed new) i e)) same (subst (P passed) (sym (get_or-set_same ids passed new e within)) here)
]

pub HasNewIdsTo-next : {from to : Slots} {ids : List (Option ℕ)} {passed : ℕ} (new : Option ℕ) → passed < 256 → HasNewIdsTo from to ids passed
    → IsNewId from to passed new → IfSome new IsId → HasNoIdAbove 255 from → HasNewIdsTo from to (set ids passed new) (passed + 1)
HasNewIdsTo-next {from} {to} {ids} {passed} new within was is valid no_others = record {
  long = length-set ids passed new ∙ was.long;
  no_others = λ below. no_others;
  new = λ id e below. set_each (IsNewId from to) ids passed new (omega (arith, was.long)) (λ k d here. was.new k d here) is id e below;
  valid = λ id e below. set_each (λ k slot. IfSome slot IsId) ids passed new (omega (arith, was.long)) (λ k d here. was.valid k d here) valid id e below;
}

-- a table of the new ids from 0 on has the new id of each
pub AreNewIds-table : {from to : Slots} {ids : List (Option ℕ)} {passed : ℕ} → 256 ≤ passed → HasNewIdsTo from to ids passed → AreNewIds from to ids
AreNewIds-table {from} {to} {ids} whole are = λ id. elim (cases_lt id 256) [
  | inl below ↦ are.new id None (omega arith)
  | inr above ↦ subst (IsNewId from to id) (sym (get_or_past ids id None (omega (arith, are.long))))
      (λ extension is. absurd (unmapped (ap extension_of (are.no_others (omega arith) id (omega arith))) is))
]
  where
    unmapped : {X : Type 0} {slot : Option X} {x : X} → slot ≡ None → slot ≡ Some x → ⊥
    unmapped empty filled = cc

-- such a table carries the extensions
pub CarriesExtensions-new : (from to : Slots) (ids : List (Option ℕ)) → AreNewIds from to ids → CarriesExtensions from to ids
CarriesExtensions-new from to ids are = record {
  mapped = λ id extension _. are id;
  others = λ id new extension is mapped.
      let found : (e : Extension) × (extension_at from id ≡ Some e) × IsLowest to e new = subst (IsNewId from to id) is (are id) in
      let same : found.0 ≡ extension = one_kind (sym found.2.mapped ∙ mapped) in
      found.1 ∙ ap Some same;
}

-- ---- a table of bytes

pub new_id-byte : (bytes : List ℕ) (id : ℕ) → new_id (map id_in_byte bytes) id ≡ id_in_byte (get_or bytes id 0)
new_id-byte bytes id = get_or-map id_in_byte bytes id 0

-- the form can carry what the byte says
pub carried_byte : (byte : ℕ) → nat_le byte 14 ≡ carries_id OneByte (id_in_byte byte)
carried_byte zero = refl
carried_byte (suc k) = refl

-- what a byte says is an id
one : {X : Type 0} {a b : X} → Some a ≡ Some b → a ≡ b
one same = cc

IsId-byte : (byte new : ℕ) → byte < 256 → id_in_byte byte ≡ Some new → IsId new
IsId-byte zero new below is = cc
IsId-byte (suc k) new below is = let same : suc k ≡ new = one is in (omega arith, omega arith)

pub IsId-bytes : (bytes : List ℕ) (id new : ℕ) → ((i : ℕ) → get_or bytes i 0 < 256) → new_id (map id_in_byte bytes) id ≡ Some new → IsId new
IsId-bytes bytes id new below is = IsId-byte (get_or bytes id 0) new (below id) (sym (new_id-byte bytes id) ∙ is)

-- the first byte is passed over
pub ids_in_bytes-zero : (bytes : List ℕ) → get_or bytes 0 0 ≡ 0 → ids_in_bytes bytes ≡ map id_in_byte bytes
ids_in_bytes-zero [] is = refl
ids_in_bytes-zero (first ∷ bytes) is = ap (λ (id : Option ℕ). id ∷ map id_in_byte bytes) (sym (ap id_in_byte is))

-- the ids below an id have their new ids in a table of bytes
abbrev pub HasNewBytesTo : Slots → Slots → List ℕ → ℕ → Type 0
HasNewBytesTo from to bytes passed = HasNewIdsTo from to (map id_in_byte bytes) passed

pub HasNewBytesTo-start : (from to : Slots) (bytes : List ℕ) → length bytes ≡ 256 → HasNewBytesTo from to bytes 0
HasNewBytesTo-start from to bytes long = HasNewIdsTo-start from to (map id_in_byte bytes) (length-map bytes id_in_byte ∙ long)

pub byte_said : (new : Option ℕ) → IfSome new IsId → id_in_byte (byte_of_id new) ≡ new
byte_said None valid = refl
byte_said (Some zero) valid = absurd (omega (arith, valid.0))
byte_said (Some (suc k)) valid = refl

pub HasNewBytesTo-next : (from to : Slots) (bytes : List ℕ) (passed : ℕ) (new : Option ℕ) → passed < 256 → HasNewBytesTo from to bytes passed
    → IsNewId from to passed new → IfSome new IsId → HasNoIdAbove 255 from → HasNewBytesTo from to (set bytes passed (byte_of_id new)) (passed + 1)
HasNewBytesTo-next from to bytes passed new within was is valid no_others =
    subst (λ (ids : List (Option ℕ)). HasNewIdsTo from to ids (passed + 1))
    (sym (map-set id_in_byte bytes passed (byte_of_id new) ∙ ap (set (map id_in_byte bytes) passed) (byte_said new valid)))
    (HasNewIdsTo-next new within was is valid no_others)

-- the bytes of such a table say the new ids
pub AreNewBytes-table : (from to : Slots) (bytes : List ℕ) (passed : ℕ) → 256 ≤ passed → HasNewBytesTo from to bytes passed → AreNewBytes from to bytes
AreNewBytes-table from to bytes passed whole are = λ id.
    subst (IsNewId from to id) (new_id-byte bytes id) (AreNewIds-table whole are id)

-- they make a table
pub AreNewBytes-new : (from to : Slots) (bytes : List ℕ) → AreNewBytes from to bytes → AreNewIds from to (map id_in_byte bytes)
AreNewBytes-new from to bytes are = λ id. subst (IsNewId from to id) (sym (new_id-byte bytes id)) (are id)
