-- The elements of a block (RFC 8285, 4.2 and 4.3).
--
-- one-byte header               two-byte header
--  0 1 2 3 4 5 6 7               0                   1
-- |   ID  | L - 1 | data        |      ID       |     L         | data
use Rattle.std.specs.Prelude.{◌≡◌, ◌≢◌, ℕ, ◌+◌, ◌-◌, ◌*◌, ◌≤◌, List, [], ◌∷◌, ◌++◌, length, Option, Some, None}
use Rattle.std.specs.List.{AllByRecursion, flat_map, filter_map}
use Rattle.rtp_ext.specs.declared.form.ExtensionsForm.{ExtensionsForm}
use Rattle.rtp_ext.specs.declared.form.ExtensionsForm.TheVariants.{OneByte, TwoByte}

-- an element: its id and its data
abbrev pub Element : Type 0
Element = ℕ × List ℕ

-- what each form can carry: one byte of data or more and an id of at most 14 in the one-byte form, where a header of 0 is a byte of padding; any id but 0 in the two-byte form
abbrev pub IsElement : ExtensionsForm → Element → Type 0
IsElement OneByte element =
    (element.0 ≤ 14) × (1 ≤ length element.1) × (length element.1 ≤ 16) × (1 ≤ element.0 * 16 + (length element.1 - 1))
IsElement TwoByte element = (1 ≤ element.0) × (element.0 ≤ 255) × (length element.1 ≤ 255)

-- its header and its data
abbrev pub element_bytes : ExtensionsForm → Element → List ℕ
element_bytes OneByte element = (element.0 * 16 + (length element.1 - 1)) ∷ element.1
element_bytes TwoByte element = element.0 ∷ length element.1 ∷ element.1

-- the bytes of elements in a row, each with its header and its data
abbrev pub elements_bytes : ExtensionsForm → List Element → List ℕ
elements_bytes form elements = flat_map (element_bytes form) elements

-- a piece of a block: an element, or a byte of padding
abbrev pub IsPiece : ExtensionsForm → Option Element → Type 0
IsPiece form None = Unit {0}
IsPiece form (Some element) = IsElement form element

abbrev pub piece_bytes : ExtensionsForm → Option Element → List ℕ
piece_bytes form None = 0 ∷ []
piece_bytes form (Some element) = element_bytes form element

-- what may follow the pieces: nothing; the beginning of an element that is cut short; in the one-byte form a byte of id 15, and whatever follows it
pub data IsTail (form : ExtensionsForm) (tail : List ℕ) : Type 0 where
  ended : tail ≡ [] → IsTail form tail
  cut_short : (element : Element) (missing : List ℕ) → IsElement form element → tail ≢ [] → missing ≢ []
      → element_bytes form element ≡ tail ++ missing → IsTail form tail
  stopped : (first : ℕ) (others : List ℕ) → form ≡ OneByte → 15 * 16 ≤ first → tail ≡ first ∷ others → IsTail form tail

-- the body of a block is pieces in a row, each an element or a byte of padding, and a tail where reading ends; its elements are those of the pieces, in order
pub record AreElements (form : ExtensionsForm) (body : List ℕ) (elements : List Element) : Type 0 where
  pub pieces : List (Option Element)
  pub tail : List ℕ
  pub are_pieces : AllByRecursion (IsPiece form) pieces
  pub is_tail : IsTail form tail
  pub body_is : body ≡ flat_map (piece_bytes form) pieces ++ tail
  pub elements_are : elements ≡ filter_map (λ piece. piece) pieces
