-- What C is told of an element where it lies in the body of a block (RFC 8285, 4.2 and 4.3).
use Rattle.std.specs.Prelude.{◌≡◌, ℕ, ◌+◌, List, [], ◌∷◌, ◌++◌, drop, replicate}
use Rattle.rtp_ext.specs.declared.form.ExtensionsForm.{ExtensionsForm}
use Rattle.rtp_ext.specs.Elements.{Element, IsElement, element_bytes, AreElements}
use Rattle.rtp_ext.specs.declared.place.Place.{Place}
use Rattle.rtp_ext.specs.ElementsInPlace.{HasNone}
use Rattle.rtp_ext.specs.ElementPlaces.{LiesLast}
use Rattle.rtp_c.specs.declared.packet.ElementView.{ElementView}
use Rattle.rtp_c.specs.PacketView.{slice_at}

-- the id and the data of the element
abbrev pub element_in : List ℕ → ElementView → Element
element_in body view = (view.id, slice_at body view.data_at view.data_len)

-- from the offset on there is only padding, then the element, and after it what follows its end
pub record IsNextElement (form : ExtensionsForm) (body : List ℕ) (at : ℕ) (view : ElementView) : Type 0 where
  pub padding : ℕ
  pub is_element : IsElement form (element_in body view)
  pub left_is : drop at body ≡ replicate padding 0 ++ (element_bytes form (element_in body view) ++ drop view.end body)
  pub end_is : view.end ≡ view.data_at + view.data_len

-- of the elements of the body it is the last of its id
pub record IsLastElement (form : ExtensionsForm) (body : List ℕ) (id : ℕ) (view : ElementView) : Type 0 where
  pub before : List Element
  pub after : List Element
  pub id_is : view.id ≡ id
  pub are_elements : AreElements form body (before ++ element_in body view ∷ after)
  pub last : HasNone after id
  pub end_is : view.end ≡ view.data_at + view.data_len

-- C is told where the last element of the id lies
pub record LiesAsLast (form : ExtensionsForm) (body : List ℕ) (id : ℕ) (view : ElementView) : Type 0 where
  pub place : Place
  pub id_is : place.id ≡ id
  pub lies : LiesLast form (AreElements form) id body place
  pub data_at_is : view.data_at ≡ place.data_start
  pub ends : view.end ≡ place.end

-- each of these is the next element from the end of the one before it on, and the first one from the offset on
abbrev pub AreNextElements : ExtensionsForm → List ℕ → ℕ → List ElementView → Type 0
AreNextElements form body at [] = Unit {0}
AreNextElements form body at (view ∷ views) = IsNextElement form body at view × AreNextElements form body view.end views

-- where the last of these ends, and the offset where there is none
abbrev pub end_after : ℕ → List ElementView → ℕ
end_after at [] = at
end_after at (view ∷ views) = end_after view.end views
