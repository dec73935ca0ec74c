-- An element that is put into a block, or taken out of it, and the block that is made anew for it (RFC 8285, 4.1.2, 4.2 and 4.3).
--
-- The element takes the place of the last one of its id, and those of the id before that go; where there is none of the id it comes last. All others stay, in order, but those of the id 0, which is padding's and no extension's: where such an element of the one-byte form has length bits, a receiver that reads as 4.2 says ends there. The form stays where it serves; a body that is made anew is its elements in a row, and zeros. What stands where reading ends, an element that is cut short or what follows the id 15, is no element, and goes where the body is made anew.
use Rattle.std.specs.Prelude.{◌≡◌, ℕ, ◌-◌, ◌==◌, if◌then◌else◌, List, [], ◌∷◌, ◌++◌, length, replicate, Bool, not, Option, Some, None}
use Rattle.std.specs.List.{filter, list_any}
use Rattle.rtp_ext.specs.declared.form.ExtensionsForm.{ExtensionsForm}
use Rattle.rtp_ext.specs.declared.form.ExtensionsForm.TheVariants.{OneByte, TwoByte}
use Rattle.rtp_ext.specs.Elements.{Element, elements_bytes}
use Rattle.rtp_ext.specs.ElementsInARow.{serves_one_byte}
use Rattle.rtp_ext.specs.ElementsInPlace.{HasNone}

-- whether an element has the id
abbrev pub has_id : ℕ → Element → Bool
has_id id element = element.0 == id

-- the elements of other ids, in order
abbrev pub without : ℕ → List Element → List Element
without id elements = filter (λ element. not (has_id id element)) elements

-- the elements with those that come, one or none, in place of the last one of the id, and without those of the id before it; they come last where there is none of the id
abbrev pub put_among : ℕ → List Element → List Element → List Element
put_among id comes [] = comes
put_among id comes (element ∷ elements) =
    if has_id id element
    then (if list_any (has_id id) elements then put_among id comes elements else comes ++ elements)
    else element ∷ put_among id comes elements

-- the elements with this one in place of the last of its id, and without those of the id before it; it comes last where there is none
abbrev pub put_element : Element → List Element → List Element
put_element new elements = put_among new.0 (new ∷ []) elements

-- the elements of a body once it is rewritten: those of the id 0 go, and those of the id that goes, and those that come, one or none, are put in place of the last one that goes; where the id that goes is 0, no others go, and what comes is last
abbrev pub rewritten_elements : ℕ → List Element → List Element → List Element
rewritten_elements goes comes elements = put_among goes comes (without 0 elements)

-- the form that a block of this form, or none, needs for the element: the two-byte form where it has that, or the one-byte form can't carry the element
abbrev pub needed_form : Option ExtensionsForm → Element → ExtensionsForm
needed_form None element = if serves_one_byte element then OneByte else TwoByte
needed_form (Some OneByte) element = if serves_one_byte element then OneByte else TwoByte
needed_form (Some TwoByte) element = TwoByte

-- the form that it gets, where any that serves may be written, or one alone; none where that doesn't serve
abbrev pub allowed_form : Option ExtensionsForm → ExtensionsForm → Option ExtensionsForm
allowed_form None needed = Some needed
allowed_form (Some TwoByte) needed = Some TwoByte
allowed_form (Some OneByte) OneByte = Some OneByte
allowed_form (Some OneByte) TwoByte = None

-- elements in a row, and zeros up to this many bytes
abbrev pub row_to : ExtensionsForm → List Element → ℕ → List ℕ
row_to form elements len = elements_bytes form elements ++ replicate (len - length (elements_bytes form elements)) 0

-- the element is the only one of its id in these, which have no other one of the id 0, and has as many bytes of data as its old one
pub record IsSole (elements : List Element) (element : Element) : Type 0 where
  pub before : List Element
  pub after : List Element
  pub was : List ℕ
  pub in_order : elements ≡ before ++ (element.0, was) ∷ after
  pub none_before : HasNone before element.0
  pub none_after : HasNone after element.0
  pub no_zero_before : HasNone before 0
  pub no_zero_after : HasNone after 0
  pub as_many : length was ≡ length element.1
