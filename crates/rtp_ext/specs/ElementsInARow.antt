-- Elements that are written one after the other (RFC 8285, 4.2 and 4.3).
use Rattle.std.specs.Prelude.{◌≡◌, ℕ, ◌≤◌, ◌<◌, ◌⊎◌, List, [], ◌∷◌, map, length, Any, Bool, ◌&&◌, nat_le, if◌then◌else◌, Option, None, Some}
use Rattle.std.specs.List.{AllByRecursion, list_all}
use Rattle.std.specs.Borrow.{Bor}
use Rattle.rtp_ext.specs.declared.form.ExtensionsForm.{ExtensionsForm}
use Rattle.rtp_ext.specs.declared.form.ExtensionsForm.TheVariants.{OneByte, TwoByte}
use Rattle.rtp_ext.specs.Elements.{Element, IsElement, elements_bytes}

-- the elements that pairs of an id and its data are
abbrev pub elements_of : List (ℕ × Bor (List ℕ)) → List Element
elements_of pairs = map (λ e. (e.0, e.1.now)) pairs

-- the element that is given, if one is
abbrev pub elements_added : Option (ℕ × Bor (List ℕ)) → List Element
elements_added None = []
elements_added (Some element) = (element.0, element.1.now) ∷ []

-- an element that may be written in the form: one that it can carry, of another id than 0, which is padding's
abbrev pub IsWritable : ExtensionsForm → Element → Type 0
IsWritable form element = (1 ≤ element.0) × IsElement form element

-- each element may be written in the form, and there is room for them in a row
pub record AreWritableIn (form : ExtensionsForm) (elements : List Element) (room : ℕ) : Type 0 where
  pub writable : AllByRecursion (IsWritable form) elements
  pub bytes_fit : length (elements_bytes form elements) ≤ room

-- whether the one-byte form can carry the element: an id of 1 to 14, and 1 to 16 bytes of data
abbrev pub serves_one_byte : Element → Bool
serves_one_byte element =
    (nat_le 1 element.0 && nat_le element.0 14) && (nat_le 1 (length element.1) && nat_le (length element.1) 16)

-- the form that serves for the elements: the one-byte form exactly where it can carry every one
abbrev pub form_for : List Element → ExtensionsForm
form_for elements = if list_all serves_one_byte elements then OneByte else TwoByte

-- the form that elements are written in: the one that serves for them, or the one that alone is allowed
abbrev pub form_given : Option ExtensionsForm → List Element → ExtensionsForm
form_given None elements = form_for elements
form_given (Some form) elements = form

-- an element that neither form can carry: its id is 0, or it has more than 255 bytes of data
abbrev pub IsUnwritable : Element → Type 0
IsUnwritable element = (element.0 ≡ 0) ⊎ (255 < length element.1)

-- the elements can't be written in a row in the form: there is one that it can't carry, or they take more than the room
pub data AreNotWritableIn (form : ExtensionsForm) (elements : List Element) (room : ℕ) : Type 0 where
  unwritable : Any (λ element. IsWritable form element → ⊥) elements → AreNotWritableIn form elements room
  short_room : room < length (elements_bytes form elements) → AreNotWritableIn form elements room
