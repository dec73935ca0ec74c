-- A table of bytes in which the ids of one kind get a new id, and those of another none.
use Rattle.rtp_ext.proofs.Common.{◌≡◌, ◌≢◌, ◌⊎◌, inl, inr, ℕ, ◌+◌, ◌<◌, ◌≤◌, List, [], ◌∷◌, length, get_or, set, Option, Some, None, All, arith, refl, sym, ap, ◌∙◌, subst, ⊎_elim, length-set, option_map, Contains, cases_eq, get_or-set_same, get_or-set_other, All-head, All-tail, Extension, KnownKind, extension_of_kind, Slots, extension_at, items_from, Renames}
use Rattle.rtp_ext.proofs.ListingLemmas.{items_mapped, unmapped_or_item}
use Rattle.rtp_ext.proofs.RenamedIdLemmas.{kind_found, later}

-- what became of the byte of an id
pub record IsRenamedAt (map : Slots) (from to : Extension) (lowest : ℕ) (old new : List ℕ) (id : ℕ) : Type 0 where
  pub renamed : extension_at map id ≡ Some from → get_or new id 0 ≡ lowest
  pub gone : extension_at map id ≡ Some to → get_or new id 0 ≡ 0
  pub others : extension_at map id ≢ Some from → extension_at map id ≢ Some to → get_or new id 0 ≡ get_or old id 0

-- by the kind that is read at the id
pub IsRenamedAt-kind : (map : Slots) (from to : KnownKind) (lowest : ℕ) (old new : List ℕ) (id : ℕ) {byte : ℕ} (found : Option KnownKind)
    → option_map extension_of_kind found ≡ extension_at map id → get_or new id 0 ≡ byte
    → (found ≡ Some from → byte ≡ lowest) → (found ≡ Some to → byte ≡ 0) → (found ≢ Some from → found ≢ Some to → byte ≡ get_or old id 0)
    → IsRenamedAt map (extension_of_kind from) (extension_of_kind to) lowest old new id
IsRenamedAt-kind map from to lowest old new id found read is renamed gone others = record {
  renamed = λ mapped. is ∙ renamed (kind_found found from (read ∙ mapped));
  gone = λ mapped. is ∙ gone (kind_found found to (read ∙ mapped));
  others = λ not_from not_to. is ∙ others
      (λ same. not_from (sym read ∙ ap (option_map extension_of_kind) same)) (λ same. not_to (sym read ∙ ap (option_map extension_of_kind) same));
}

-- ---- id by id

pub record IsRenamedTo (map : Slots) (from to : Extension) (lowest : ℕ) (old new : List ℕ) (passed : ℕ) : Type 0 where
  pub long : length new ≡ 256
  pub before : (id : ℕ) → id < passed → IsRenamedAt map from to lowest old new id
  pub after : (id : ℕ) → passed ≤ id → get_or new id 0 ≡ get_or old id 0

-- the id 0 is mapped to nothing
pub IsRenamedTo-first : (map : Slots) (from to : Extension) (lowest : ℕ) (old : List ℕ) → length old ≡ 256 → IsRenamedTo map from to lowest old old 1
IsRenamedTo-first map from to lowest old long = record {
  long = long;
  before = λ id below.
      let first : 0 ≡ id = omega (arith, below) in
      subst (IsRenamedAt map from to lowest old old) first (record { renamed = λ mapped. cc; gone = λ mapped. cc; others = λ not_from not_to. refl });
  after = λ id above. refl;
}

pub IsRenamedTo-next : (map : Slots) (from to : KnownKind) (lowest : ℕ) (old new : List ℕ) (id byte : ℕ) (found : Option KnownKind) → id < 256
    → option_map extension_of_kind found ≡ extension_at map id
    → (found ≡ Some from → byte ≡ lowest) → (found ≡ Some to → byte ≡ 0) → (found ≢ Some from → found ≢ Some to → byte ≡ get_or new id 0)
    → IsRenamedTo map (extension_of_kind from) (extension_of_kind to) lowest old new id
    → IsRenamedTo map (extension_of_kind from) (extension_of_kind to) lowest old (set new id byte) (id + 1)
IsRenamedTo-next map from to lowest old new id byte found within read renamed gone others was = record {
  long = length-set new id byte ∙ was.long;
  before = λ k below. elim (cases_eq k id) [
    | inl here ↦ subst (IsRenamedAt map (extension_of_kind from) (extension_of_kind to) lowest old (set new id byte)) (sym here)
        (IsRenamedAt-kind map from to lowest old (set new id byte) id found read (get_or-set_same new id byte 0 (omega (arith, within, was.long))) renamed gone
        (λ not_from not_to. others not_from not_to ∙ was.after id (omega arith)))
    | inr other ↦
        let same = get_or-set_other new id k byte 0 other in
        let at = was.before k (omega (arith, below, other)) in
        record {
          renamed = λ mapped. same ∙ at.renamed mapped;
          gone = λ mapped. same ∙ at.gone mapped;
          others = λ not_from not_to. same ∙ at.others not_from not_to;
        }
  ];
  after = λ k above. get_or-set_other new id k byte 0 (λ same. omega (arith, above, same)) ∙ was.after k (omega (arith, above));
}

pub Renames-end : (map : Slots) (from to : Extension) (lowest : ℕ) (old new : List ℕ) (passed : ℕ) → 256 ≤ passed
    → IsRenamedTo map from to lowest old new passed → Renames map from to lowest old new
Renames-end map from to lowest old new passed all was = record {
  renamed = λ id below. (was.before id (omega (arith, below, all))).renamed;
  gone = λ id below. (was.before id (omega (arith, below, all))).gone;
  others = λ id below. (was.before id (omega (arith, below, all))).others;
}

-- ---- on a walk

-- the ids have their bytes, but for those of the items that are left, which have the old ones
pub record IsRenamedBut (map : Slots) (from to : Extension) (lowest : ℕ) (old new : List ℕ) (left : List (ℕ × Extension)) : Type 0 where
  pub long : length new ≡ 256
  pub mapped : All (λ item. extension_at map item.0 ≡ Some item.1) left
  pub each : (id : ℕ) → IsRenamedAt map from to lowest old new id
      ⊎ (((extension : Extension) × Contains left (id, extension)) × (get_or new id 0 ≡ get_or old id 0))

pub IsRenamedBut-start : (map : Slots) (from to : Extension) (lowest : ℕ) (old : List ℕ) {left : List (ℕ × Extension)} → left ≡ items_from 0 map → length old ≡ 256
    → IsRenamedBut map from to lowest old old left
IsRenamedBut-start map from to lowest old is long =
    subst (IsRenamedBut map from to lowest old old) (sym is) (record {
      long = long;
      mapped = items_mapped map;
      each = λ id. ⊎_elim (λ missing. inl (unmapped id missing)) (λ listed. inr (listed, refl)) (unmapped_or_item map id);
    })
  where
    unmapped : (id : ℕ) → extension_at map id ≡ None → IsRenamedAt map from to lowest old old id
    unmapped id missing = record {
      renamed = λ mapped. let no = sym missing ∙ mapped in cc;
      gone = λ mapped. let no = sym missing ∙ mapped in cc;
      others = λ not_from not_to. refl;
    }

pub IsRenamedBut-next : {map : Slots} (from to : KnownKind) {lowest : ℕ} {old new : List ℕ} {left : List (ℕ × Extension)} (more : List (ℕ × Extension)) {id index : ℕ} (byte : ℕ) (kind : KnownKind)
    → left ≡ (id, extension_of_kind kind) ∷ more → id < 256 → index ≡ id
    → (Some kind ≡ Some from → byte ≡ lowest) → (Some kind ≡ Some to → byte ≡ 0) → (Some kind ≢ Some from → Some kind ≢ Some to → byte ≡ get_or new index 0)
    → IsRenamedBut map (extension_of_kind from) (extension_of_kind to) lowest old new left
    → IsRenamedBut map (extension_of_kind from) (extension_of_kind to) lowest old (set new index byte) more
IsRenamedBut-next {map} from to {lowest} {old} {new} more {id} byte kind is within there renamed gone others was =
    subst (λ (n : ℕ). IsRenamedBut map (extension_of_kind from) (extension_of_kind to) lowest old (set new n byte) more) (sym there) (record {
      long = length-set new id byte ∙ whole.long;
      mapped = All-tail (λ i. extension_at map i.0 ≡ Some i.1) item more whole.mapped;
      each = λ k. elim (cases_eq k id) [
        | inl here ↦ inl (subst (IsRenamedAt map (extension_of_kind from) (extension_of_kind to) lowest old (set new id byte)) (sym here) this)
        | inr other ↦
            let same = get_or-set_other new id k byte 0 other in
            elim (whole.each k) [
              | inl at ↦ inl (record {
                renamed = λ mapped. same ∙ at.renamed mapped;
                gone = λ mapped. same ∙ at.gone mapped;
                others = λ not_from not_to. same ∙ at.others not_from not_to;
              })
              | inr waits ↦ elim (later item more k waits.0.0 waits.0.1) [
                | inl same_item ↦ absurd (other (sym (ap (λ (i : ℕ × Extension). i.0) same_item)))
                | inr rest ↦ inr ((waits.0.0, rest), same ∙ waits.1)
              ]
            ]
      ];
    })
  where
    item : ℕ × Extension
    item = (id, extension_of_kind kind)

    whole : IsRenamedBut map (extension_of_kind from) (extension_of_kind to) lowest old new ((id, extension_of_kind kind) ∷ more)
    whole = subst (IsRenamedBut map (extension_of_kind from) (extension_of_kind to) lowest old new) is was

    mapped_here : extension_at map id ≡ Some (extension_of_kind kind)
    mapped_here = All-head (λ i. extension_at map i.0 ≡ Some i.1) (id, extension_of_kind kind) more whole.mapped

    this : IsRenamedAt map (extension_of_kind from) (extension_of_kind to) lowest old (set new id byte) id
    this =
        IsRenamedAt-kind map from to lowest old (set new id byte) id (Some kind) (sym mapped_here)
        (get_or-set_same new id byte 0 (omega (arith, within, whole.long))) renamed gone
        (λ not_from not_to. others not_from not_to ∙ ap (λ (n : ℕ). get_or new n 0) there ∙ old_here not_from not_to (whole.each id))
      where
        old_here : Some kind ≢ Some from → Some kind ≢ Some to
            → IsRenamedAt map (extension_of_kind from) (extension_of_kind to) lowest old new id
            ⊎ (((extension : Extension) × Contains (item ∷ more) (id, extension)) × (get_or new id 0 ≡ get_or old id 0)) → get_or new id 0 ≡ get_or old id 0
        old_here not_from not_to (inl at) = at.others
            (λ mapped. not_from (kind_found (Some kind) from (sym mapped_here ∙ mapped)))
            (λ mapped. not_to (kind_found (Some kind) to (sym mapped_here ∙ mapped)))
        old_here not_from not_to (inr waits) = waits.1

pub Renames-walked : {map : Slots} {from to : Extension} {lowest : ℕ} {old new : List ℕ} {left : List (ℕ × Extension)} → left ≡ []
    → IsRenamedBut map from to lowest old new left → Renames map from to lowest old new
Renames-walked {map} {from} {to} {lowest} {old} {new} {left} ended was = record {
  renamed = λ id below. (at id (was.each id)).renamed;
  gone = λ id below. (at id (was.each id)).gone;
  others = λ id below. (at id (was.each id)).others;
}
  where
    at : (id : ℕ) → IsRenamedAt map from to lowest old new id
        ⊎ (((extension : Extension) × Contains left (id, extension)) × (get_or new id 0 ≡ get_or old id 0)) → IsRenamedAt map from to lowest old new id
    at id (inl done) = done
    at id (inr waits) =
        let found = subst (λ (items : List (ℕ × Extension)). Contains items (id, waits.0.0)) ended waits.0.1 in
        let within = found.1 in
        absurd (omega arith)
