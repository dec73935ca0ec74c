-- Each body of a block says some values under each map.
use Rattle.rtp_ext.proofs.Common.{◌≡◌, ℕ, zero, suc, inl, inr, List, ◌∷◌, ◌++◌, Option, Some, None, append_assoc, append-nil, refl, sym, ◌∙◌, subst, arith, [], AllByRecursion, flat_map, filter_map, Extension, ExtensionValues, no_values, with_fields, IsWellFormed, Reads-same, SameFields-taken, SameFields-others, one_kind, ExtensionsForm, OneByte, TwoByte, Element, element_bytes, piece_bytes, AreElements, elements_left, Slots, extension_at, Carries, AreValues, SaysValues}
use Rattle.rtp_values.proofs.KindLaws.{well_formed_or_not}
use Rattle.rtp_ext.proofs.ElementLemmasOfBodies.{AreBytes, AreElements-found}
use Rattle.rtp_ext.proofs.ValuesLaws.{AreValues-none, AreValues-passed, AreValues-read}

-- ---- the data of elements are bytes

pub AreBytes-front : (xs ys : List ℕ) → AreBytes (xs ++ ys) → AreBytes xs
AreBytes-front [] ys all i = omega arith
AreBytes-front (x ∷ xs) ys all zero = all 0
AreBytes-front (x ∷ xs) ys all (suc i) = AreBytes-front xs ys (λ k. all (suc k)) i

pub AreBytes-back : (xs ys : List ℕ) → AreBytes (xs ++ ys) → AreBytes ys
AreBytes-back [] ys all = all
AreBytes-back (x ∷ xs) ys all = AreBytes-back xs ys (λ k. all (suc k))

data_of : (form : ExtensionsForm) (element : Element) → AreBytes (element_bytes form element) → AreBytes element.1
data_of OneByte element all = λ i. all (suc i)
data_of TwoByte element all = λ i. all (suc (suc i))

data_of_pieces : (form : ExtensionsForm) (pieces : List (Option Element)) → AreBytes (flat_map (piece_bytes form) pieces)
    → AllByRecursion (λ element. AreBytes element.1) (filter_map (λ piece. piece) pieces)
data_of_pieces form [] all = tt
data_of_pieces form (None ∷ pieces) all = data_of_pieces form pieces (λ i. all (suc i))
data_of_pieces form (Some element ∷ pieces) all =
    let others : List ℕ = flat_map (piece_bytes form) pieces in (
      data_of form element (AreBytes-front (element_bytes form element) others all),
      data_of_pieces form pieces (AreBytes-back (element_bytes form element) others all),
    )

data_of_body : {form : ExtensionsForm} {body : List ℕ} {elements : List Element} → AreBytes body → AreElements form body elements
    → AllByRecursion (λ element. AreBytes element.1) elements
data_of_body {form} all are =
    subst (AllByRecursion (λ element. AreBytes element.1)) (sym are.elements_are)
    (data_of_pieces form are.pieces (AreBytes-front (flat_map (piece_bytes form) are.pieces) are.tail (subst AreBytes are.body_is all)))

-- ---- the values once one element more is read, and once all are

abbrev ReadsOn : Slots → List Element → ExtensionValues → Type 0
ReadsOn exts elements old = (new : ExtensionValues) × AreValues exts elements old new

pub unmapped-carries : (exts : Slots) (element : Element) → extension_at exts element.0 ≡ None → (kind : Extension) → Carries exts kind element → ⊥
unmapped-carries exts element none kind carries = let mapped = carries.0 in absurd cc

pub malformed-carries : (exts : Slots) (element : Element) (kind : Extension) → extension_at exts element.0 ≡ Some kind → (IsWellFormed kind element.1 → ⊥)
    → (any : Extension) → Carries exts any element → ⊥
malformed-carries exts element kind mapped not any carries =
    not (subst (λ k. IsWellFormed k element.1) (one_kind (sym carries.0 ∙ mapped)) carries.1)

reads_one_more : (exts : Slots) (done : List Element) (element : Element) (old between : ExtensionValues) (mapped : Option Extension)
    → extension_at exts element.0 ≡ mapped → AreBytes element.1 → AreValues exts done old between → ReadsOn exts (done ++ element ∷ []) old
reads_one_more exts done element old between None is all values = (between, AreValues-passed exts done element old between (unmapped-carries exts element is) values)
reads_one_more exts done element old between (Some kind) is all values = elim (well_formed_or_not kind element.1 all) [
  | inl read ↦
      let new = with_fields kind between read.0 in (
        new,
        AreValues-read exts done element kind old between new is (Reads-same kind element.1 read.0 new read.1 (SameFields-taken kind between read.0))
            (λ other differs. SameFields-others kind other between read.0 differs) values,
      )
  | inr not ↦ (between, AreValues-passed exts done element old between (malformed-carries exts element kind is not) values)
]

reads_on : (exts : Slots) (done left : List Element) (old between : ExtensionValues) → AllByRecursion (λ element. AreBytes element.1) left
    → AreValues exts done old between → ReadsOn exts (done ++ left) old
reads_on exts done [] old between all values = (between, subst (λ elements. AreValues exts elements old between) (sym (append-nil done)) values)
reads_on exts done (element ∷ left) old between all values =
    let more = reads_one_more exts done element old between (extension_at exts element.0) refl all.0 values in
    subst (λ elements. ReadsOn exts elements old) (append_assoc done (element ∷ []) left)
    (reads_on exts (done ++ element ∷ []) left old more.0 all.1 more.1)

pub values_found : (exts : Slots) (form : ExtensionsForm) (body : List ℕ) → AreBytes body → (values : ExtensionValues) × SaysValues form exts body values
values_found exts form body all =
    let are = AreElements-found form body all in
    let read = reads_on exts [] (elements_left form body) no_values no_values (data_of_body all are) (AreValues-none exts no_values) in
    (read.0, record { elements = elements_left form body; are_elements = are; are_values = read.1 })
