-- What receivers have in common, prepared once for all packets: the new ids, and the elements that are put, each with zeros in the place of the data that a receiver brings (RFC 8285, 4.2, 4.3 and 5).
use Rattle.std.specs.Prelude.{◌≡◌, ℕ, zero, suc, ◌+◌, ◌<◌, ◌≤◌, List, [], ◌∷◌, ◌++◌, length, map, take, replicate, slice_index, Bool, true, false, Option, Some, None, All}
use Rattle.std.specs.List.{sum_by}
use Rattle.rtp_ext.specs.declared.form.ExtensionsForm.{ExtensionsForm}
use Rattle.rtp_ext.specs.declared.form.ExtensionsForm.TheVariants.{OneByte, TwoByte}
use Rattle.rtp_ext.specs.Elements.{Element}
use Rattle.rtp_ext.specs.ElementsInARow.{IsWritable}
use Rattle.rtp_ext.specs.NewIds.{ids_in_bytes}
use Rattle.rtp_wire.specs.declared.packet.not_put.NotPut.{NotPut as NotPutCause}
use Rattle.rtp_wire.specs.declared.packet.not_put.NotPut.TheVariants.{ZeroId, LongData}
use Rattle.rtp_route.specs.declared.not_routed.NotRouted.{NotRouted}
use Rattle.rtp_route.specs.declared.not_routed.NotRouted.TheVariants.{ManyElements, RepeatedId, LongId, NotPut}
use Rattle.rtp_route.specs.declared.stored_group.StoredGroup.{StoredGroup}
use Rattle.rtp_route.specs.NotRouted.{AreForTemplate}
use Rattle.rtp_route.specs.Template.{HaveOwnIds}

-- elements of these ids, each with so many zeros as its data
abbrev pub blank_elements : List ℕ → List ℕ → List Element
blank_elements [] lens = []
blank_elements (id ∷ ids) [] = []
blank_elements (id ∷ ids) (len ∷ lens) = (id, replicate len 0) ∷ blank_elements ids lens

-- the elements with zeros as their data
abbrev pub blank : List Element → List Element
blank elements = map (λ element. (element.0, replicate (length element.1) 0)) elements

-- those that a group puts
abbrev pub elements_in : StoredGroup → List Element
elements_in group = take group.count (blank_elements group.element_ids group.data_lens)

-- the new ids that it gives
abbrev pub ids_in : StoredGroup → List (Option ℕ)
ids_in group = ids_in_bytes group.new_ids

-- the form that alone is allowed: 1 is the one-byte form, 2 the two-byte form, and 0 says that any is
abbrev pub form_of : ℕ → Option ExtensionsForm
form_of zero = None
form_of (suc zero) = Some OneByte
form_of (suc (suc k)) = Some TwoByte

-- these numbers are those of a group: there are at most sixteen elements, which the two-byte form can carry; at each one's id stands its number, which counts from 1 on; the id 0 is no element's and has no new one; and the numbers tell how many bytes of data the elements have together, and whether the one-byte form can carry each
pub record IsGroup (group : StoredGroup) : Type 0 where
  pub few : group.count ≤ 16
  pub allowed_is : group.allowed ≤ 2
  pub no_new_id : slice_index group.new_ids 0 ≡ 0
  pub no_number : slice_index group.numbers 0 ≡ 0
  pub carried : All (IsWritable TwoByte) (elements_in group)
  pub numbered : (index : ℕ) → index < group.count → slice_index group.numbers (slice_index group.element_ids index) ≡ index + 1
  pub total_is : group.data_total ≡ sum_by (λ len. len) (take group.count group.data_lens)
  pub short : 0 < group.one_byte → All (IsWritable OneByte) (elements_in group)
  pub long : group.one_byte ≡ 0 → All (IsWritable OneByte) (elements_in group) → ⊥

-- at the id of each element stands its number
abbrev pub AreNumbered : StoredGroup → Type 0
AreNumbered group = (index : ℕ) → index < group.count → slice_index group.numbers (slice_index group.element_ids index) ≡ index + 1

-- the elements can be put, and have so many bytes of data together; and whether the one-byte form can carry each
pub record AreTotals (group : StoredGroup) (total : ℕ) (one_byte : Bool) : Type 0 where
  pub numbered : AreNumbered group
  pub carried : All (IsWritable TwoByte) (elements_in group)
  pub total_is : total ≡ sum_by (λ len. len) (take group.count group.data_lens)
  pub short : one_byte ≡ true → All (IsWritable OneByte) (elements_in group)
  pub long : one_byte ≡ false → All (IsWritable OneByte) (elements_in group) → ⊥

-- the group gives these new ids, puts these elements with data of each receiver's own, and allows this form
pub record IsGroupOf (ids : List (Option ℕ)) (news : List Element) (allowed : Option ExtensionsForm) (group : StoredGroup) : Type 0 where
  pub is_group : IsGroup group
  pub ids_are : ids_in group ≡ ids
  pub elements_are : elements_in group ≡ blank news
  pub allowed_is : form_of group.allowed ≡ allowed

-- the first of the elements that neither form can carry: its id is 0, or else it has more than 255 bytes of data
pub record IsFirstUnwritable (news : List Element) (cause : NotPutCause) : Type 0 where
  pub before : List Element
  pub element : Element
  pub after : List Element
  pub in_order : news ≡ before ++ element ∷ after
  pub carried : All (IsWritable TwoByte) before
  pub zero_id : element.0 ≡ 0 → cause ≡ ZeroId
  pub long_data : 0 < element.0 → (255 < length element.1) × (cause ≡ LongData)

-- the cause for which no group is prepared: too many elements, then two of one id, then one that neither form can carry
abbrev pub KeepsFromGroup : List Element → NotRouted → Type 0
KeepsFromGroup news ManyElements = 16 < length news
KeepsFromGroup news RepeatedId = (length news ≤ 16) × (HaveOwnIds news → ⊥)
KeepsFromGroup news LongId = ⊥
KeepsFromGroup news (NotPut cause) = AreForTemplate news × IsFirstUnwritable news cause
