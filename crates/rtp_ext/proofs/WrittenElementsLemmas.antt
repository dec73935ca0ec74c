-- The elements that are read from elements in a row.
use Rattle.rtp_ext.proofs.Common.{◌≡◌, ℕ, List, [], ◌∷◌, ◌++◌, replicate, Option, Some, None, refl, sym, ap, ◌∙◌, append_assoc, zero, suc, IfSome, AllByRecursion, flat_map, filter_map, cons_option, option_map, append-nil, ExtensionsForm, Extension, ExtensionValues, Element, IsElement, element_bytes, IsPiece, piece_bytes, AreElements, ended, elements_bytes, spelled_data, carried_values, IsCarried, Slots, items_from, Reads, written_elements}
use Rattle.rtp_ext.proofs.FormLemmas.{Item, elements_of}

-- a byte of padding for each zero after the elements
pieces_of : List Element → ℕ → List (Option Element)
pieces_of [] zero = []
pieces_of [] (suc zeros) = None ∷ pieces_of [] zeros
pieces_of (element ∷ elements) zeros = Some element ∷ pieces_of elements zeros

pieces_of-pieces : (form : ExtensionsForm) (elements : List Element) (zeros : ℕ) → AllByRecursion (IsElement form) elements
    → AllByRecursion (IsPiece form) (pieces_of elements zeros)
unfolding pieces_of
pieces_of-pieces form [] zero all = tt
pieces_of-pieces form [] (suc zeros) all = (tt, pieces_of-pieces form [] zeros all)
pieces_of-pieces form (element ∷ elements) zeros all = (all.0, pieces_of-pieces form elements zeros all.1)

pieces_of-bytes : (form : ExtensionsForm) (elements : List Element) (zeros : ℕ)
    → elements_bytes form elements ++ replicate zeros 0 ≡ flat_map (piece_bytes form) (pieces_of elements zeros)
unfolding pieces_of
pieces_of-bytes form [] zero = refl
pieces_of-bytes form [] (suc zeros) = ap (λ (rest : List ℕ). 0 ∷ rest) (pieces_of-bytes form [] zeros)
pieces_of-bytes form (element ∷ elements) zeros =
    append_assoc (element_bytes form element) (elements_bytes form elements) (replicate zeros 0)
    ∙ ap (λ (rest : List ℕ). element_bytes form element ++ rest) (pieces_of-bytes form elements zeros)

pieces_of-elements : (elements : List Element) (zeros : ℕ) → elements ≡ filter_map (λ piece. piece) (pieces_of elements zeros)
unfolding pieces_of
pieces_of-elements [] zero = refl
pieces_of-elements [] (suc zeros) = pieces_of-elements [] zeros
pieces_of-elements (element ∷ elements) zeros = ap (λ (rest : List Element). element ∷ rest) (pieces_of-elements elements zeros)

elements-carried : (form : ExtensionsForm) (values : ExtensionValues) (items : List Item) → AllByRecursion (IsCarried form values) items
    → AllByRecursion (IsElement form) (elements_of values items)
elements-carried form values [] all = tt
elements-carried form values (item ∷ items) all =
    element-carried form values item.0 item.1 (spelled_data item.1 values) (elements_of values items) all.0 (elements-carried form values items all.1)
  where
    element-carried : (form : ExtensionsForm) (values : ExtensionValues) (id : ℕ) (kind : Extension) (bytes : Option (List ℕ)) (rest : List Element)
        → IfSome bytes (λ b. IsElement form (id, b) × Reads kind b (carried_values values)) → AllByRecursion (IsElement form) rest
        → AllByRecursion (IsElement form) (cons_option (option_map (λ b. (id, b)) bytes) rest)
    element-carried form values id kind None rest here all = all
    element-carried form values id kind (Some bytes) rest here all = (here.0, all)

-- elements in a row and any zeros after them, which are padding, are a body with these elements
pub AreElements-in_a_row : (form : ExtensionsForm) (elements : List Element) (zeros : ℕ) → AllByRecursion (IsElement form) elements
    → AreElements form (elements_bytes form elements ++ replicate zeros 0) elements
AreElements-in_a_row form elements zeros all = record {
  pieces = pieces_of elements zeros;
  tail = [];
  are_pieces = pieces_of-pieces form elements zeros all;
  is_tail = ended refl;
  body_is = pieces_of-bytes form elements zeros ∙ sym (append-nil (flat_map (piece_bytes form) (pieces_of elements zeros)));
  elements_are = pieces_of-elements elements zeros;
}

-- those that a map writes
pub AreElements-written : (form : ExtensionsForm) (exts : Slots) (values : ExtensionValues) (zeros : ℕ) → AllByRecursion (IsCarried form values) (items_from 0 exts)
    → AreElements form (elements_bytes form (written_elements exts values) ++ replicate zeros 0) (written_elements exts values)
AreElements-written form exts values zeros all =
    AreElements-in_a_row form (written_elements exts values) zeros (elements-carried form values (items_from 0 exts) all)
