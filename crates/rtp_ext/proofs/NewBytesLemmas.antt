-- The bytes of the new ids, found on a walk over the mapped ids.
use Rattle.rtp_ext.proofs.Common.{◌≡◌, ◌⊎◌, inl, inr, ℕ, zero, suc, ◌<◌, List, ◌∷◌, length, get_or, set, replicate, Option, Some, None, IfSome, IfNone, All, arith, refl, sym, ap, ◌∙◌, subst, ⊎_elim, length-set, Contains, cases_eq, get_or-set_same, get_or-set_other, All-head, All-tail, Extension, one_kind, Slots, IsId, IsLowest, IsUnmapped, extension_at, items_from, IsNewId, id_in_byte, byte_of_id}
use Rattle.rtp_ext.proofs.ListingLemmas.{items_mapped, unmapped_or_item, item_or_later}
use Rattle.rtp_ext.proofs.NewIdLemmas.{byte_said}

-- the ids have their new ids in a table of bytes, but for those of the items that are left
pub record HasNewBytesBut (from to : Slots) (left : List (ℕ × Extension)) (bytes : List ℕ) : Type 0 where
  pub long : length bytes ≡ 256
  pub mapped : All (λ item. extension_at from item.0 ≡ Some item.1) left
  pub new : (id : ℕ) → IsNewId from to id (id_in_byte (get_or bytes id 0)) ⊎ ((extension : Extension) × Contains left (id, extension))

zero_there : (n id : ℕ) → get_or (replicate n zero) id zero ≡ zero
zero_there zero id = refl
zero_there (suc n) zero = refl
zero_there (suc n) (suc id) = zero_there n id

pub HasNewBytesBut-start : (from to : Slots) {left : List (ℕ × Extension)} (bytes : List ℕ) → left ≡ items_from 0 from → bytes ≡ replicate 256 0
    → HasNewBytesBut from to left bytes
HasNewBytesBut-start from to bytes is zeros =
    subst (λ (items : List (ℕ × Extension)). HasNewBytesBut from to items bytes) (sym is)
    (subst (HasNewBytesBut from to (items_from 0 from)) (sym zeros) (record {
      long = refl;
      mapped = items_mapped from;
      new = λ id. ⊎_elim (λ missing. inl (unmapped id missing)) inr (unmapped_or_item from id);
    }))
  where
    unmapped : (id : ℕ) → extension_at from id ≡ None → IsNewId from to id (id_in_byte (get_or (replicate 256 0) id 0))
    unmapped id missing =
        subst (λ (byte : ℕ). IsNewId from to id (id_in_byte byte)) (sym (zero_there 256 id)) (λ extension mapped. let nothing = sym missing ∙ mapped in cc)

-- the lowest id of an extension, if there is one
pub record IsLowestOf (to : Slots) (extension : Extension) (lowest : Option ℕ) : Type 0 where
  pub found : IfSome lowest (IsLowest to extension)
  pub valid : IfSome lowest IsId
  pub none : IfNone lowest (IsUnmapped to extension)

lowest_new : (from : Slots) {to : Slots} (id : ℕ) {extension : Extension} (lowest : Option ℕ) → extension_at from id ≡ Some extension → IsLowestOf to extension lowest
    → IsNewId from to id lowest
lowest_new from {to} id None mapped is = λ other here. subst (IsUnmapped to) (one_kind (sym mapped ∙ here)) is.none
lowest_new from id {extension} (Some new) mapped is = (extension, mapped, is.found)

pub HasNewBytesBut-next : {from to : Slots} {left : List (ℕ × Extension)} (more : List (ℕ × Extension)) {bytes : List ℕ} (item : ℕ × Extension) {at byte : ℕ} (lowest : Option ℕ)
    → HasNewBytesBut from to left bytes → left ≡ item ∷ more → item.0 < 256 → at ≡ item.0 → byte ≡ byte_of_id lowest → IsLowestOf to item.1 lowest
    → HasNewBytesBut from to more (set bytes at byte)
HasNewBytesBut-next {from} {to} more {bytes} item {byte} lowest are is within there said of =
    subst (λ (n : ℕ). HasNewBytesBut from to more (set bytes n byte)) (sym there) (record {
      long = length-set bytes item.0 byte ∙ whole.long;
      mapped = All-tail (λ i. extension_at from i.0 ≡ Some i.1) item more whole.mapped;
      new = λ id. elim (cases_eq id item.0) [
        | inl here ↦ inl (subst (λ (i : ℕ). IsNewId from to i (id_in_byte (get_or (set bytes item.0 byte) i 0))) (sym here) this)
        | inr other ↦ elim (whole.new id) [
          | inl new ↦ inl (subst (λ (b : ℕ). IsNewId from to id (id_in_byte b)) (sym (get_or-set_other bytes item.0 id byte 0 other)) new)
          | inr left_there ↦ elim (item_or_later item more id left_there.0 left_there.1) [
            | inl same ↦ absurd (other (sym same))
            | inr later ↦ inr (left_there.0, later)
          ]
        ]
      ];
    })
  where
    whole : HasNewBytesBut from to (item ∷ more) bytes
    whole = subst (λ (items : List (ℕ × Extension)). HasNewBytesBut from to items bytes) is are

    new_byte : id_in_byte byte ≡ lowest
    new_byte = ap id_in_byte said ∙ byte_said lowest of.valid

    this : IsNewId from to item.0 (id_in_byte (get_or (set bytes item.0 byte) item.0 0))
    this =
        subst (λ (b : ℕ). IsNewId from to item.0 (id_in_byte b)) (sym (get_or-set_same bytes item.0 byte 0 (omega (arith, within, whole.long))))
        (subst (IsNewId from to item.0) (sym new_byte)
        (lowest_new from item.0 lowest (All-head (λ i. extension_at from i.0 ≡ Some i.1) item more whole.mapped) of))
