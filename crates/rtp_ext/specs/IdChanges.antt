-- Which id each element gets, and a body whose elements get them one after another (RFC 8285, 4.2 and 4.3): what the functions of `place` promise each other.
use Rattle.std.specs.Prelude.{◌≡◌, ℕ, List, ◌++◌, length, All, Bool, true, nat_le, Option, Some, None, is_none}
use Rattle.std.specs.List.{AllByRecursion, flat_map, filter_map, list_any}
use Rattle.rtp_ext.specs.declared.form.ExtensionsForm.{ExtensionsForm}
use Rattle.rtp_ext.specs.declared.form.ExtensionsForm.TheVariants.{OneByte, TwoByte}
use Rattle.rtp_ext.specs.declared.place.IdChange.{IdChange}
use Rattle.rtp_ext.specs.declared.place.IdChange.TheVariants.{AllBut, Table}
use Rattle.rtp_ext.specs.Elements.{Element, AreElements, IsElement, IsPiece, piece_bytes}
use Rattle.rtp_ext.specs.ElementReading.{elements_left}
use Rattle.rtp_ext.specs.ElementsInPlace.{all_but, renumbered_bytes, CanRenumber, ChangesIds}
use Rattle.rtp_ext.specs.NewIds.{new_id}

-- the new id of each id
abbrev pub ids_of : IdChange → ℕ → Option ℕ
ids_of (AllBut id) = all_but id
ids_of (Table ids) = new_id ids.now

-- whether the form can carry an id, where there is one
abbrev pub carries_id : ExtensionsForm → Option ℕ → Bool
carries_id form None = true
carries_id OneByte (Some id) = nat_le id 14
carries_id TwoByte (Some id) = true

-- the form can carry the new id of each element of a body, where it has one
abbrev pub CanChangeIds : ExtensionsForm → (ℕ → Option ℕ) → List ℕ → Type 0
CanChangeIds form ids body = All (λ element. IsElement form element → CanRenumber form ids element) (elements_left form body)

-- each element of a body has its new id or has become padding, and whether one has become that
pub record HasOtherIds (form : ExtensionsForm) (ids : ℕ → Option ℕ) (old new : List ℕ) (is_lost : Bool) : Type 0 where
  pub changed : ChangesIds form ids old new
  pub lost : (elements : List Element) → AreElements form old elements → is_lost ≡ list_any (λ element. is_none (ids element.0)) elements

-- the bytes of a body up to an offset are whole pieces, whose elements have their new ids or are padding, and the others are as they were; and whether an element has become padding
pub record HasOtherIdsTo (form : ExtensionsForm) (ids : ℕ → Option ℕ) (old new : List ℕ) (at : ℕ) (lost : Bool) : Type 0 where
  pub pieces : List (Option Element)
  pub left : List ℕ
  pub are_pieces : AllByRecursion (IsPiece form) pieces
  pub old_is : old ≡ flat_map (piece_bytes form) pieces ++ left
  pub new_is : new ≡ flat_map (renumbered_bytes form ids) pieces ++ left
  pub at_is : at ≡ length (flat_map (renumbered_bytes form ids) pieces)
  pub lost_is : lost ≡ list_any (λ element. is_none (ids element.0)) (filter_map (λ piece. piece) pieces)
  pub others : All (λ element. IsElement form element → CanRenumber form ids element) (elements_left form left)
