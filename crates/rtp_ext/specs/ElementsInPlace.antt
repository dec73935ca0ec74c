-- The elements of a block's body where they lie: the last one of an id, other data, other ids, and padding in place of an element (RFC 8285, 4.2 and 4.3).
use Rattle.std.specs.Prelude.{◌≡◌, ◌≢◌, ℕ, ◌==◌, if◌then◌else◌, List, [], ◌∷◌, ◌++◌, length, replicate, Option, Some, None, IfSome, All}
use Rattle.std.specs.List.{AllByRecursion, flat_map}
use Rattle.std.specs.Option.{option_map}
use Rattle.rtp_ext.specs.declared.form.ExtensionsForm.{ExtensionsForm}
use Rattle.rtp_ext.specs.Elements.{Element, IsElement, element_bytes, IsPiece, piece_bytes, IsTail, AreElements}

-- no element has the id
abbrev pub HasNone : List Element → ℕ → Type 0
HasNone elements id = All (λ element. element.0 ≢ id) elements

-- the last element of the id has these bytes as its data
pub record HasLast (elements : List Element) (id : ℕ) (bytes : List ℕ) : Type 0 where
  pub before : List Element
  pub after : List Element
  pub in_order : elements ≡ before ++ (id, bytes) ∷ after
  pub last : HasNone after id

-- the last element of the id has this many bytes of data
abbrev pub HasLastOf : List Element → ℕ → ℕ → Type 0
HasLastOf elements id count = (bytes : List ℕ) × HasLast elements id bytes × (length bytes ≡ count)

-- the data of the last element of the id become these bytes, which are as many, and all other bytes and elements stay
pub record SetsLast (form : ExtensionsForm) (id : ℕ) (bytes old new : List ℕ) : Type 0 where
  pub front : List ℕ
  pub was : List ℕ
  pub rest : List ℕ
  pub before : List Element
  pub after : List Element
  pub as_many : length was ≡ length bytes
  pub old_is : old ≡ front ++ (was ++ rest)
  pub new_is : new ≡ front ++ (bytes ++ rest)
  pub old_elements : AreElements form old (before ++ (id, was) ∷ after)
  pub new_elements : AreElements form new (before ++ (id, bytes) ∷ after)
  pub last : HasNone after id

-- an element under the new id of its id, and none where that has no new id
abbrev pub renumbered : (ℕ → Option ℕ) → Element → Option Element
renumbered ids element = option_map (λ id. (id, element.1)) (ids element.0)

-- its bytes: zeros, which are padding, where it has no new id
abbrev pub bytes_under : ExtensionsForm → Element → Option ℕ → List ℕ
bytes_under form element None = replicate (length (element_bytes form element)) 0
bytes_under form element (Some id) = element_bytes form (id, element.1)

-- the bytes of a piece under the new ids
abbrev pub renumbered_bytes : ExtensionsForm → (ℕ → Option ℕ) → Option Element → List ℕ
renumbered_bytes form ids None = 0 ∷ []
renumbered_bytes form ids (Some element) = bytes_under form element (ids element.0)

-- each element of a body has its new id or is padding, and all other bytes stay
pub record ChangesIds (form : ExtensionsForm) (ids : ℕ → Option ℕ) (old new : List ℕ) : Type 0 where
  pub pieces : List (Option Element)
  pub tail : List ℕ
  pub are_pieces : AllByRecursion (IsPiece form) pieces
  pub is_tail : IsTail form tail
  pub old_is : old ≡ flat_map (piece_bytes form) pieces ++ tail
  pub new_is : new ≡ flat_map (renumbered_bytes form ids) pieces ++ tail

-- the form can carry the element under the new id of its id, where that has one
abbrev pub CanRenumber : ExtensionsForm → (ℕ → Option ℕ) → Element → Type 0
CanRenumber form ids element = IfSome (ids element.0) (λ id. IsElement form (id, element.1))

-- each id keeps itself, except one that has no new id
abbrev pub all_but : ℕ → ℕ → Option ℕ
all_but id k = if k == id then None else Some k
