-- The lowest id of a kind, found on a walk, and the ids under which elements of one kind become elements of another.
use Rattle.rtp_ext.proofs.Common.{◌≡◌, ◌≢◌, ◌⊎◌, inl, inr, ℕ, zero, suc, ◌<◌, List, [], ◌∷◌, length, get_or, map, Option, Some, None, IfSome, IfNone, All, arith, refl, sym, ap, ◌∙◌, subst, option_map, Contains, cases_lt, get_or_past, length-map, All-head, All-tail, All-contains, same_Some, Extension, KnownKind, IsKnown, extension_of_kind, one_kind, Slots, IsId, IsLowest, IsUnmapped, IsRising, extension_at, items_from, known_slots, new_id, IsRenamedId, AreRenamedIds, Renames, id_in_byte}
use Rattle.rtp_values.proofs.KindLemmas.{kind_is_known}
use Rattle.rtp_values.proofs.KindSetLemmas.{same_kind}
use Rattle.rtp_ext.proofs.KindsByIdLemmas.{known_slots-keep, known_slots-back}
use Rattle.rtp_ext.proofs.ListingLemmas.{ListsItems-from_slots, above_passed}
use Rattle.rtp_ext.proofs.NewIdLemmas.{new_id-byte}

-- ---- the kinds by themselves

pub kind_found : (found : Option KnownKind) (kind : KnownKind) → option_map extension_of_kind found ≡ Some (extension_of_kind kind) → found ≡ Some kind
kind_found None kind is = cc
kind_found (Some found) kind is = ap Some (same_kind found kind (one_kind is))

-- ---- the lowest id

-- the mapped ids that a walk has not passed: each of this kind is among them
pub record AreLeft (exts : Slots) (kind : Extension) (left : List (ℕ × Extension)) : Type 0 where
  pub rising : IsRising left
  pub mapped : All (λ item. extension_at exts item.0 ≡ Some item.1) left
  pub ids : All (λ item. 0 < item.0) left
  pub all : (id : ℕ) → extension_at exts id ≡ Some kind → Contains left (id, kind)

pub AreLeft-start : (exts : Slots) (kind : Extension) (left : List (ℕ × Extension)) → left ≡ items_from 0 exts → AreLeft exts kind left
AreLeft-start exts kind left is =
    let listing = ListsItems-from_slots exts in
    subst (AreLeft exts kind) (sym is) (record {
      rising = listing.rising;
      mapped = λ k d here. (listing.mapped k d here).0;
      ids = above_passed 0 exts;
      all = λ id mapped. listing.all id kind mapped refl;
    })

pub later : (item : ℕ × Extension) (left : List (ℕ × Extension)) (id : ℕ) (kind : Extension) → Contains (item ∷ left) (id, kind)
    → (item ≡ (id, kind)) ⊎ Contains left (id, kind)
later item left id kind (zero, here, is) = inl is
later item left id kind (suc k, here, is) = inr (k, omega arith, is)

pub AreLeft-next : (exts : Slots) (kind : Extension) (left more : List (ℕ × Extension)) (item : ℕ × Extension) → AreLeft exts kind left → left ≡ item ∷ more
    → item.1 ≢ kind → AreLeft exts kind more
AreLeft-next exts kind left more item are is other =
    let whole = subst (AreLeft exts kind) is are in
    record {
      rising = whole.rising.1;
      mapped = All-tail (λ i. extension_at exts i.0 ≡ Some i.1) item more whole.mapped;
      ids = All-tail (λ i. 0 < i.0) item more whole.ids;
      all = λ id mapped. elim (later item more id kind (whole.all id mapped)) [
        | inl this ↦ absurd (other (ap (λ (i : ℕ × Extension). i.1) this))
        | inr rest ↦ rest
      ];
    }

pub IsLowest-left : (exts : Slots) (kind : Extension) (left more : List (ℕ × Extension)) (item : ℕ × Extension) → AreLeft exts kind left → left ≡ item ∷ more
    → item.1 ≡ kind → IsLowest exts kind item.0 × (0 < item.0)
IsLowest-left exts kind left more item are is this =
    let whole = subst (AreLeft exts kind) is are in (
      record {
        mapped = All-head (λ i. extension_at exts i.0 ≡ Some i.1) item more whole.mapped ∙ ap Some this;
        lowest = λ k below mapped. elim (later item more k kind (whole.all k mapped)) [
          | inl same ↦ let number = ap (λ (i : ℕ × Extension). i.0) same in omega arith
          | inr rest ↦ let above = All-contains (λ i. item.0 < i.0) more (k, kind) whole.rising.0 rest in omega arith
        ];
      },
      All-head (λ i. 0 < i.0) item more whole.ids,
    )

pub IsUnmapped-left : (exts : Slots) (kind : Extension) (left : List (ℕ × Extension)) → AreLeft exts kind left → left ≡ [] → IsUnmapped exts kind
IsUnmapped-left exts kind left are is = λ id mapped.
    let found = subst (λ (items : List (ℕ × Extension)). Contains items (id, kind)) is (are.all id mapped) in
    let within = found.1 in
    omega arith

-- the same of all extensions of the map
pub IsLowest-known : (exts slots : Slots) (kind : KnownKind) (id : ℕ) → slots ≡ known_slots exts → IsLowest slots (extension_of_kind kind) id
    → IsLowest exts (extension_of_kind kind) id
IsLowest-known exts slots kind id is lowest =
    let lowest' = subst (λ (s : Slots). IsLowest s (extension_of_kind kind) id) is lowest in
    record {
      mapped = known_slots-back exts id (extension_of_kind kind) lowest'.mapped;
      lowest = λ k below mapped. lowest'.lowest k below (known_slots-keep exts k (extension_of_kind kind) (kind_is_known kind) mapped);
    }

pub IsUnmapped-known : (exts slots : Slots) (kind : KnownKind) → slots ≡ known_slots exts → IsUnmapped slots (extension_of_kind kind) → IsUnmapped exts (extension_of_kind kind)
IsUnmapped-known exts slots kind is none = λ id mapped.
    subst (λ (s : Slots). IsUnmapped s (extension_of_kind kind)) is none id (known_slots-keep exts id (extension_of_kind kind) (kind_is_known kind) mapped)

-- the same of what was found
pub IsLowest-of_kind : (exts slots : Slots) (kind : KnownKind) (extension : Extension) (found : Option ℕ) → slots ≡ known_slots exts
    → extension_of_kind kind ≡ extension → IfSome found (IsLowest slots (extension_of_kind kind)) → IfSome found (IsLowest exts extension)
IsLowest-of_kind exts slots kind extension None is same lowest = tt
IsLowest-of_kind exts slots kind extension (Some id) is same lowest = subst (λ (it : Extension). IsLowest exts it id) same (IsLowest-known exts slots kind id is lowest)

pub IsUnmapped-of_kind : (exts slots : Slots) (kind : KnownKind) (extension : Extension) (found : Option ℕ) → slots ≡ known_slots exts
    → extension_of_kind kind ≡ extension → IfNone found (IsUnmapped slots (extension_of_kind kind)) → IfNone found (IsUnmapped exts extension)
IsUnmapped-of_kind exts slots kind extension None is same none = subst (IsUnmapped exts) same (IsUnmapped-known exts slots kind is none)
IsUnmapped-of_kind exts slots kind extension (Some id) is same none = tt

-- ---- the table

in_byte : (byte : ℕ) → 0 < byte → id_in_byte byte ≡ Some byte
in_byte zero above = absurd (omega arith)
in_byte (suc k) above = refl

same_lowest : (exts : Slots) (kind : Extension) (a b : ℕ) → IsLowest exts kind a → IsLowest exts kind b → a ≡ b
same_lowest exts kind a b first second = elim (cases_lt a b) [
  | inl below ↦ absurd (second.lowest a below first.mapped)
  | inr above ↦ elim (cases_lt b a) [
    | inl below ↦ absurd (first.lowest b below second.mapped)
    | inr equal ↦ omega arith
  ]
]

-- where the lowest id of the second kind has been put in the bytes, which said each id itself
IsRenamedId-at : (exts known : Slots) (from to : KnownKind) (lowest : ℕ) (old new : List ℕ) (id : ℕ) → known ≡ known_slots exts → 0 < id → id < 256
    → IsLowest exts (extension_of_kind to) lowest → 0 < lowest → (other : ℕ) → extension_at exts other ≡ Some (extension_of_kind from)
    → ((k : ℕ) → k < 256 → get_or old k 0 ≡ k) → Renames known (extension_of_kind from) (extension_of_kind to) lowest old new
    → IsRenamedId exts (extension_of_kind from) (extension_of_kind to) id (id_in_byte (get_or new id 0))
IsRenamedId-at exts known from to lowest old new id is above below is_lowest some other beside same renames = record {
  renamed = λ there mapped lowest_there.
      ap id_in_byte (renames.renamed id below (keep from mapped)) ∙ in_byte lowest some
      ∙ ap Some (same_lowest exts (extension_of_kind to) lowest there is_lowest lowest_there);
  gone = λ there mapped from_there. ap id_in_byte (renames.gone id below (keep to mapped));
  others = λ not_from not_to.
      ap id_in_byte (renames.others id below (λ mapped. not_from (back_there from mapped)) (λ mapped. not_to (back_there to mapped)) ∙ same id below) ∙ in_byte id above;
  lacking = λ none. elim none [
    | inl no_from ↦ absurd (no_from other beside)
    | inr no_to ↦ absurd (no_to lowest is_lowest.mapped)
  ];
}
  where
    keep : (kind : KnownKind) → extension_at exts id ≡ Some (extension_of_kind kind) → extension_at known id ≡ Some (extension_of_kind kind)
    keep kind mapped =
        ap (λ (s : Slots). extension_at s id) is ∙ known_slots-keep exts id (extension_of_kind kind) (kind_is_known kind) mapped

    back_there : (kind : KnownKind) → extension_at known id ≡ Some (extension_of_kind kind) → extension_at exts id ≡ Some (extension_of_kind kind)
    back_there kind mapped = known_slots-back exts id (extension_of_kind kind) (sym (ap (λ (s : Slots). extension_at s id) is) ∙ mapped)

-- the table of the bytes
no_new_id : (bytes : List ℕ) → length bytes ≡ 256 → get_or bytes 0 0 ≡ 0 → (id : ℕ) → (IsId id → ⊥) → new_id (map id_in_byte bytes) id ≡ None
no_new_id bytes long first zero never = new_id-byte bytes 0 ∙ ap id_in_byte first
no_new_id bytes long first (suc k) never = elim (cases_lt (suc k) 256) [
  | inl below ↦ absurd (never (omega arith, omega arith))
  | inr above ↦ get_or_past (map id_in_byte bytes) (suc k) None (omega (arith, above, long, length-map bytes id_in_byte))
]

pub AreRenamedIds-put : (exts known : Slots) (from to : KnownKind) (lowest : ℕ) (old new : List ℕ) → known ≡ known_slots exts
    → IsLowest exts (extension_of_kind to) lowest → 0 < lowest → (other : ℕ) × (extension_at exts other ≡ Some (extension_of_kind from))
    → length new ≡ 256 → ((k : ℕ) → k < 256 → get_or old k 0 ≡ k) → Renames known (extension_of_kind from) (extension_of_kind to) lowest old new
    → AreRenamedIds exts (extension_of_kind from) (extension_of_kind to) (map id_in_byte new)
AreRenamedIds-put exts known from to lowest old new is is_lowest some beside long same renames = record {
  each = λ id is_id. subst (IsRenamedId exts (extension_of_kind from) (extension_of_kind to) id) (sym (new_id-byte new id))
      (IsRenamedId-at exts known from to lowest old new id is (omega (arith, is_id.0)) (omega (arith, is_id.1)) is_lowest some beside.0 beside.1 same renames);
  no_id = no_new_id new long (renames.others 0 (omega arith) (λ mapped. cc) (λ mapped. cc) ∙ same 0 (omega arith));
}

-- where the map lacks one of the kinds
pub AreRenamedIds-same : (exts : Slots) (from to : Extension) (bytes : List ℕ) → IsUnmapped exts from ⊎ IsUnmapped exts to → length bytes ≡ 256
    → ((k : ℕ) → k < 256 → get_or bytes k 0 ≡ k) → AreRenamedIds exts from to (map id_in_byte bytes)
AreRenamedIds-same exts from to bytes lacks long same = record {
  each = λ id is_id. subst (IsRenamedId exts from to id) (sym (new_id-byte bytes id)) (at id (omega (arith, is_id.0)) (omega (arith, is_id.1)));
  no_id = no_new_id bytes long (same 0 (omega arith));
}
  where
    at : (id : ℕ) → 0 < id → id < 256 → IsRenamedId exts from to id (id_in_byte (get_or bytes id 0))
    at id above below =
        let itself : id_in_byte (get_or bytes id 0) ≡ Some id = ap id_in_byte (same id below) ∙ in_byte id above in
        record {
          renamed = λ new mapped lowest. elim lacks [
            | inl no_from ↦ absurd (no_from id mapped)
            | inr no_to ↦ absurd (no_to new lowest.mapped)
          ];
          gone = λ other mapped there. elim lacks [
            | inl no_from ↦ absurd (no_from other there)
            | inr no_to ↦ absurd (no_to id mapped)
          ];
          others = λ no_from no_to. itself;
          lacking = λ none. itself;
        }

-- the bytes of such a table are those of one
pub renamed_first : (exts : Slots) (from to : Extension) (bytes : List ℕ) → AreRenamedIds exts from to (map id_in_byte bytes) → get_or bytes 0 0 ≡ 0
renamed_first exts from to bytes are = in_no_byte (get_or bytes 0 0) (sym (new_id-byte bytes 0) ∙ are.no_id 0 (λ is_id. omega (arith, is_id.0)))
  where
    in_no_byte : (byte : ℕ) → id_in_byte byte ≡ None → byte ≡ 0
    in_no_byte zero none = refl
    in_no_byte (suc k) none = cc
