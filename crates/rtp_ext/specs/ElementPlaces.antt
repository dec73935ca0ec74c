-- Where elements lie in a body, by offsets: what the functions that change elements in place promise each other.
use Rattle.std.specs.Prelude.{◌≡◌, ℕ, ◌+◌, ◌-◌, ◌≤◌, List, ◌∷◌, ◌++◌, length, drop, replicate, Option, Some, None}
use Rattle.std.specs.List.{AllByRecursion, flat_map, filter_map}
use Rattle.rtp_ext.specs.declared.form.ExtensionsForm.{ExtensionsForm}
use Rattle.rtp_ext.specs.declared.place.Place.{Place}
use Rattle.rtp_base.specs.Overwriting.{overwritten}
use Rattle.rtp_ext.specs.Elements.{Element, IsElement, element_bytes, IsPiece, piece_bytes, AreElements}
use Rattle.rtp_ext.specs.ElementWriting.{element_header}
use Rattle.rtp_ext.specs.ElementsInPlace.{HasNone}

-- an element with these data lies at the place, between these bytes
pub record LiesAt (form : ExtensionsForm) (body : List ℕ) (place : Place) : Type 0 where
  pub front : List ℕ
  pub bytes : List ℕ
  pub after : List ℕ
  pub is_element : IsElement form (place.id, bytes)
  pub body_is : body ≡ front ++ (element_bytes form (place.id, bytes) ++ after)
  pub start_is : place.start ≡ length front
  pub data_is : place.data_start ≡ place.start + length (element_header form place.id (length bytes))
  pub end_is : place.end ≡ place.data_start + length bytes

-- the first element from the offset on lies at the place, and only padding before it
pub record IsNextPlace (form : ExtensionsForm) (body : List ℕ) (at : ℕ) (place : Place) : Type 0 where
  pub padding : ℕ
  pub bytes : List ℕ
  pub after : List ℕ
  pub is_element : IsElement form (place.id, bytes)
  pub left_is : drop at body ≡ replicate padding 0 ++ (element_bytes form (place.id, bytes) ++ after)
  pub start_is : place.start ≡ at + padding
  pub data_is : place.data_start ≡ place.start + length (element_header form place.id (length bytes))
  pub end_is : place.end ≡ place.data_start + length bytes
  pub within : place.end + length after ≡ length body

-- bytes are whole pieces in a row, with these elements
pub record AreWhole (form : ExtensionsForm) (bytes : List ℕ) (elements : List Element) : Type 0 where
  pub pieces : List (Option Element)
  pub are_pieces : AllByRecursion (IsPiece form) pieces
  pub bytes_are : bytes ≡ flat_map (piece_bytes form) pieces
  pub elements_are : elements ≡ filter_map (λ piece. piece) pieces

-- the last element of the id has its data at the place, and with any others that are as many the bytes have the elements with those
pub record IsLastPlace (AreOf : List ℕ → List Element → Type 0) (id : ℕ) (bytes : List ℕ) (place : Place) : Type 0 where
  pub front : List ℕ
  pub was : List ℕ
  pub rest : List ℕ
  pub before : List Element
  pub after : List Element
  pub bytes_are : bytes ≡ front ++ (was ++ rest)
  pub data_is : place.data_start ≡ length front
  pub end_is : place.end ≡ place.data_start + length was
  pub last : HasNone after id
  pub set : (others : List ℕ) → length others ≡ length was → AreOf (front ++ (others ++ rest)) (before ++ (id, others) ∷ after)

-- an element lies at the place: the bytes before it are whole pieces, and in those after it is no element of the id
pub record LiesLast (form : ExtensionsForm) (AreOf : List ℕ → List Element → Type 0) (id : ℕ) (bytes : List ℕ) (place : Place) : Type 0 where
  pub lies : LiesAt form bytes place
  pub before : List Element
  pub after : List Element
  pub whole : AreWhole form lies.front before
  pub left : AreOf lies.after after
  pub last : HasNone after id

-- these data stand in place of those of the last element of the id, and all other bytes stay
pub record WritesLast (form : ExtensionsForm) (id : ℕ) (bytes old new : List ℕ) : Type 0 where
  pub place : Place
  pub id_is : place.id ≡ id
  pub lies : LiesLast form (AreElements form) id old place
  pub end_is : place.end ≡ place.data_start + length bytes
  pub new_is : new ≡ overwritten old place.data_start bytes

-- the place of the last element of the id in whole pieces with these elements, or that there is none
abbrev pub IsLastOrNone : ExtensionsForm → ℕ → List ℕ → List Element → Option Place → Type 0
IsLastOrNone form id bytes elements None = HasNone elements id
IsLastOrNone form id bytes elements (Some place) = (place.id ≡ id) × LiesLast form (AreWhole form) id bytes place

-- a body up to an offset, and the place of the last element of the id there
pub record IsPassed (form : ExtensionsForm) (body : List ℕ) (at id : ℕ) (last : Option Place) : Type 0 where
  pub passed : List ℕ
  pub left : List ℕ
  pub elements : List Element
  pub body_is : body ≡ passed ++ left
  pub at_is : at ≡ length passed
  pub are_whole : AreWhole form passed elements
  pub last_is : IsLastOrNone form id passed elements last

-- these bytes of the body are left, up to its end
pub record IsLeft (body left : List ℕ) : Type 0 where
  pub few : length left ≤ length body
  pub left_is : left ≡ drop (length body - length left) body
