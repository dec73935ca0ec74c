-- For the prover: the elements of a group that was prepared can be put into a block.
use Rattle.std.specs.Prelude.{◌≡◌, ℕ, zero, suc, ◌+◌, ◌<◌, ◌≤◌, List, [], ◌∷◌, length, replicate, slice_get, Some}
use Rattle.std.proofs.Common.{get_or, refl, sym, ap, ◌∙◌, arith, length-take-le}
use Rattle.std.proofs.lemmas.Option.{slice_get-get_or, slice_get_within}
use Rattle.std.proofs.lemmas.List.{get_or-take}
use Rattle.rtp_ext.specs.declared.form.ExtensionsForm.TheVariants.{TwoByte}
use Rattle.rtp_ext.specs.Elements.{Element}
use Rattle.rtp_route.specs.declared.stored_group.StoredGroup.{StoredGroup}
use Rattle.rtp_route.specs.StoredGroup.{blank_elements, elements_in, IsGroup}
use Rattle.rtp_route.specs.Template.{HaveOwnIds}
use Rattle.rtp_route.specs.Walk.{CanBePut}

-- an element at an index
pub blank-at : (ids lens : List ℕ) (k : ℕ) → k < length ids → k < length lens → slice_get (blank_elements ids lens) k ≡ Some (get_or ids k 0, replicate (get_or lens k 0) 0)
blank-at [] lens k within long = absurd (omega (arith, within))
blank-at (id ∷ ids) [] k within long = absurd (omega (arith, long))
blank-at (id ∷ ids) (len ∷ lens) zero within long = refl
blank-at (id ∷ ids) (len ∷ lens) (suc k) within long = blank-at ids lens k (omega (arith, within)) (omega (arith, long))

pub length-blank : (ids lens : List ℕ) → length ids ≡ length lens → length (blank_elements ids lens) ≡ length ids
length-blank [] lens same = refl
length-blank (id ∷ ids) [] same = absurd (omega (arith, same))
length-blank (id ∷ ids) (len ∷ lens) same = ap suc (length-blank ids lens (omega (arith, same)))

pub length-elements : (group : StoredGroup) → group.count ≤ 16 → length group.element_ids ≡ 16 → length group.data_lens ≡ 16 → length (elements_in group) ≡ group.count
length-elements group few ids lens =
    length-take-le group.count (blank_elements group.element_ids group.data_lens) (omega (arith, few, length-blank group.element_ids group.data_lens (ids ∙ sym lens), ids))

pub element-at : (group : StoredGroup) (k : ℕ) → group.count ≤ 16 → length group.element_ids ≡ 16 → length group.data_lens ≡ 16 → k < group.count
    → slice_get (elements_in group) k ≡ Some (get_or group.element_ids k 0, replicate (get_or group.data_lens k 0) 0)
element-at group k few ids lens within =
    let all : List Element = blank_elements group.element_ids group.data_lens in
    let none : Element = (0, []) in
    let there : slice_get all k ≡ Some (get_or group.element_ids k 0, replicate (get_or group.data_lens k 0) 0) =
    blank-at group.element_ids group.data_lens k (omega (arith, within, few, ids)) (omega (arith, within, few, lens)) in
    slice_get-get_or (elements_in group) k none (omega (arith, within, length-elements group few ids lens))
    ∙ ap (λ (e : Element). Some e) (get_or-take group.count all k none within) ∙ sym (slice_get-get_or all k none (slice_get_within all k _ there)) ∙ there

-- the elements of a list have numbers, from this one on
abbrev pub AreFrom : List Element → List ℕ → ℕ → Type 0
AreFrom elements numbers from = (k : ℕ) (element : Element) → slice_get elements k ≡ Some element → get_or numbers element.0 0 ≡ from + k + 1

own-from : (elements : List Element) (numbers : List ℕ) (from : ℕ) → AreFrom elements numbers from → HaveOwnIds elements
own-from [] numbers from are = tt
own-from (first ∷ elements) numbers from are = (
  λ k d there same.
      omega (
        arith,
        are 0 first refl,
        are (suc k) (get_or elements k d) (slice_get-get_or elements k d there),
        ap (λ (id : ℕ). get_or numbers id 0) same,
      ),
  own-from elements numbers (from + 1) (λ k element here. omega (arith, are (suc k) element here)),
)

pub are-from : (group : StoredGroup) → IsGroup group → length group.element_ids ≡ 16 → length group.data_lens ≡ 16 → AreFrom (elements_in group) group.numbers 0
are-from group is ids lens k element here =
    let within : k < group.count = omega (arith, slice_get_within (elements_in group) k element here, length-elements group is.few ids lens) in
    let at : Some element ≡ Some (get_or group.element_ids k 0, replicate (get_or group.data_lens k 0) 0) = sym here ∙ element-at group k is.few ids lens within in
    let id_is : element.0 ≡ get_or group.element_ids k 0 = cc in
    omega (arith, ap (λ (id : ℕ). get_or group.numbers id 0) id_is, is.numbered k within)

pub can-be-put : (group : StoredGroup) → IsGroup group → length group.element_ids ≡ 16 → length group.data_lens ≡ 16 → CanBePut TwoByte (elements_in group)
can-be-put group is ids lens = record {
  few = omega (arith, length-elements group is.few ids lens, is.few);
  own = own-from (elements_in group) group.numbers 0 (are-from group is ids lens);
  writable = is.carried;
}
