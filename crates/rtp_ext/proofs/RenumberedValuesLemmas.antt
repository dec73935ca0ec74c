-- What a body says under another map, once its elements have their new ids: what it said, of the kinds that this map has.
use Rattle.rtp_ext.proofs.Common.{◌≡◌, ◌≢◌, ℕ, inl, inr, List, [], ◌∷◌, ◌++◌, Option, Some, None, All, get_or, refl, sym, ap, ◌∙◌, subst, IfSome, AllByRecursion, filter_map, cons_option, option_map, All-nil, All-head, All-tail, All-contains, All-from_recursion, filter_map-append, Extension, ExtensionValues, no_values, SameFields, Reads-same, SameFields-trans, one_kind, Element, renumbered, Slots, extension_at, IsUnmapped, IsLowest, items_from, IsNewId, new_id, CarriesExtensions, Carries, AreFields, last, none, AreValues, fields_of_items, mapped_fields}
use Rattle.rtp_ext.proofs.FormLemmas.{Item}
use Rattle.rtp_ext.proofs.ListingLemmas.{ListsItems-from_slots}
use Rattle.rtp_ext.proofs.WrittenValuesLemmas.{LastItem, find_last, found-mapped, fields-there, fields-absent, All-cons_option}

-- an element carries a kind under its new id only where it did before
carried_before : {from to : Slots} {ids : List (Option ℕ)} (kind : Extension) (element : Element) (new : ℕ) → CarriesExtensions from to ids
    → new_id ids element.0 ≡ Some new → Carries to kind (new, element.1) → Carries from kind element
carried_before kind element new are is carries = (are.others element.0 new kind is carries.0, carries.1)

carried_never : {from to : Slots} {ids : List (Option ℕ)} (kind : Extension) (elements : List Element) → CarriesExtensions from to ids → All (λ element. Carries from kind element → ⊥) elements
    → All (λ element. Carries to kind element → ⊥) (filter_map (renumbered (new_id ids)) elements)
carried_never {to} kind [] are never = All-nil (λ (element : Element). Carries to kind element → ⊥)
carried_never {from} {to} {ids} kind (element ∷ elements) are never =
    All-cons_option (λ (e : Element). Carries to kind e → ⊥) (renumbered (new_id ids) element) (filter_map (renumbered (new_id ids)) elements) (here (new_id ids element.0) refl)
    (carried_never kind elements are (All-tail (λ (e : Element). Carries from kind e → ⊥) element elements never))
  where
    here : (id : Option ℕ) → new_id ids element.0 ≡ id → IfSome (option_map (λ k. (k, element.1)) id) (λ (e : Element). Carries to kind e → ⊥)
    here None is = tt
    here (Some new) is = λ carries.
        All-head (λ (e : Element). Carries from kind e → ⊥) element elements never (carried_before kind element new are is carries)

-- no id has a kind that no item has
unmapped : (exts : Slots) (kind : Extension) → AllByRecursion (λ (item : Item). item.1 ≢ kind) (items_from 0 exts) → IsUnmapped exts kind
unmapped exts kind others = λ id is.
    All-contains (λ (item : Item). item.1 ≢ kind) (items_from 0 exts) (id, kind) (All-from_recursion (λ (item : Item). item.1 ≢ kind) (items_from 0 exts) others)
    ((ListsItems-from_slots exts).all id kind is refl) refl

-- the fields of a kind that the new map has
AreFields-mapped : (from to : Slots) (ids : List (Option ℕ)) (elements : List Element) (values : ExtensionValues) (kind : Extension) → CarriesExtensions from to ids
    → LastItem kind (items_from 0 to) → AreFields from elements kind no_values values
    → AreFields to (filter_map (renumbered (new_id ids)) elements) kind no_values (mapped_fields to values)
AreFields-mapped from to ids elements values kind are found (none never same) =
    none (carried_never kind elements are never)
    (SameFields-trans kind no_values values (mapped_fields to values) same
    (subst (λ (items : List Item). SameFields kind values (fields_of_items items values)) (sym found.is) (fields-there kind found.id found.before found.after values)))
AreFields-mapped from to ids elements values kind are found (last before after element is mapped reads later) = here (new_id ids element.0) refl
  where
    there : SameFields kind values (mapped_fields to values)
    there = subst (λ (items : List Item). SameFields kind values (fields_of_items items values)) (sym found.is) (fields-there kind found.id found.before found.after values)

    here : (id : Option ℕ) → new_id ids element.0 ≡ id → AreFields to (filter_map (renumbered (new_id ids)) elements) kind no_values (mapped_fields to values)
    here None no_id =
        let lost : IsNewId from to element.0 None = subst (IsNewId from to element.0) no_id (are.mapped element.0 kind mapped) in
        absurd (lost kind mapped found.id (found-mapped to kind found))
    here (Some new) new_is =
        let kept : (extension : Extension) × (extension_at from element.0 ≡ Some extension) × IsLowest to extension new =
        subst (IsNewId from to element.0) new_is (are.mapped element.0 kind mapped) in
        let same : kept.0 ≡ kind = one_kind (sym kept.1 ∙ mapped) in
        last (filter_map (renumbered (new_id ids)) before) (filter_map (renumbered (new_id ids)) after) (new, element.1)
        (ap (filter_map (renumbered (new_id ids))) is ∙ (filter_map-append (renumbered (new_id ids)) before (element ∷ after)
        ∙ ap (λ id. filter_map (renumbered (new_id ids)) before ++ cons_option (option_map (λ k. (k, element.1)) id) (filter_map (renumbered (new_id ids)) after)) new_is))
        (kept.2.mapped ∙ ap Some same)
        (Reads-same kind element.1 values (mapped_fields to values) reads there)
        (carried_never kind after are later)

pub AreValues-renumbered : (from to : Slots) (ids : List (Option ℕ)) (elements : List Element) (values : ExtensionValues) → CarriesExtensions from to ids
    → AreValues from elements no_values values → AreValues to (filter_map (renumbered (new_id ids)) elements) no_values (mapped_fields to values)
AreValues-renumbered from to ids elements values are says = λ kind. elim (find_last kind (items_from 0 to)) [
  | inl found ↦ AreFields-mapped from to ids elements values kind are found (says kind)
  | inr others ↦ none (λ k d here carries. unmapped to kind others (get_or (filter_map (renumbered (new_id ids)) elements) k d).0 carries.0)
      (fields-absent kind (items_from 0 to) values others)
]
