-- Whole pieces of a body in a row.
use Rattle.rtp_ext.proofs.Common.{ℕ, zero, suc, List, [], ◌∷◌, ◌++◌, replicate, Option, Some, None, append_assoc, refl, sym, ap, ◌∙◌, subst, AllByRecursion, flat_map, filter_map, append-nil, flat_map-append, filter_map-append, ExtensionsForm, Element, IsElement, element_bytes, IsPiece, piece_bytes, AreElements, BeginsWithNoElement, AreWhole}

pub AllByRecursion-append : {X : Type 0} (P : X → Type 0) (xs ys : List X) → AllByRecursion P xs → AllByRecursion P ys → AllByRecursion P (xs ++ ys)
AllByRecursion-append P [] ys all others = others
AllByRecursion-append P (x ∷ xs) ys all others = (all.0, AllByRecursion-append P xs ys all.1 others)

pub AreWhole-nil : (form : ExtensionsForm) → AreWhole form [] []
AreWhole-nil form = record { pieces = []; are_pieces = tt; bytes_are = refl; elements_are = refl }

pub AreWhole-append : {form : ExtensionsForm} {a b : List ℕ} {xs ys : List Element} → AreWhole form a xs → AreWhole form b ys → AreWhole form (a ++ b) (xs ++ ys)
AreWhole-append {form} {b} {ys} first second = record {
  pieces = first.pieces ++ second.pieces;
  are_pieces = AllByRecursion-append (IsPiece form) first.pieces second.pieces first.are_pieces second.are_pieces;
  bytes_are = ap (λ l. l ++ b) first.bytes_are ∙ (ap (λ l. flat_map (piece_bytes form) first.pieces ++ l) second.bytes_are
      ∙ sym (flat_map-append (piece_bytes form) first.pieces second.pieces));
  elements_are = ap (λ l. l ++ ys) first.elements_are ∙ (ap (λ l. filter_map (λ piece. piece) first.pieces ++ l) second.elements_are
      ∙ sym (filter_map-append (λ (piece : Option Element). piece) first.pieces second.pieces));
}

-- a body that begins with whole pieces
pub AreElements-after : (form : ExtensionsForm) (a b : List ℕ) (xs ys : List Element) → AreWhole form a xs → AreElements form b ys → AreElements form (a ++ b) (xs ++ ys)
AreElements-after form a b xs ys first rest = record {
  pieces = first.pieces ++ rest.pieces;
  tail = rest.tail;
  are_pieces = AllByRecursion-append (IsPiece form) first.pieces rest.pieces first.are_pieces rest.are_pieces;
  is_tail = rest.is_tail;
  body_is = ap (λ l. l ++ b) first.bytes_are ∙ (ap (λ l. flat_map (piece_bytes form) first.pieces ++ l) rest.body_is
      ∙ (sym (append_assoc (flat_map (piece_bytes form) first.pieces) (flat_map (piece_bytes form) rest.pieces) rest.tail)
      ∙ ap (λ l. l ++ rest.tail) (sym (flat_map-append (piece_bytes form) first.pieces rest.pieces))));
  elements_are = ap (λ l. l ++ ys) first.elements_are ∙ (ap (λ l. filter_map (λ piece. piece) first.pieces ++ l) rest.elements_are
      ∙ sym (filter_map-append (λ (piece : Option Element). piece) first.pieces rest.pieces));
}

pub AreWhole-zeros : (form : ExtensionsForm) (count : ℕ) → AreWhole form (replicate count 0) []
AreWhole-zeros form zero = AreWhole-nil form
AreWhole-zeros form (suc count) =
    let rest : AreWhole form (replicate count 0) [] = AreWhole-zeros form count in
    record {
      pieces = None ∷ rest.pieces;
      are_pieces = (tt, rest.are_pieces);
      bytes_are = ap (λ l. 0 ∷ l) rest.bytes_are;
      elements_are = rest.elements_are;
    }

pub AreWhole-element : (form : ExtensionsForm) (element : Element) → IsElement form element → AreWhole form (element_bytes form element) (element ∷ [])
AreWhole-element form element is = record { pieces = Some element ∷ []; are_pieces = (is, tt); bytes_are = sym (append-nil (element_bytes form element)); elements_are = refl }

-- padding and an element; padding and what ends reading
pub AreWhole-next : (form : ExtensionsForm) (padding : ℕ) (element : Element) → IsElement form element
    → AreWhole form (replicate padding 0 ++ element_bytes form element) (element ∷ [])
AreWhole-next form padding element is =
    AreWhole-append (AreWhole-zeros form padding) (AreWhole-element form element is)

pub AreElements-none : {form : ExtensionsForm} {bytes : List ℕ} → BeginsWithNoElement form bytes → AreElements form bytes []
AreElements-none {form} none = subst (λ b. AreElements form b []) (sym none.bytes_are)
    (AreElements-after form (replicate none.padding 0) none.tail [] [] (AreWhole-zeros form none.padding)
    (record { pieces = []; tail = none.tail; are_pieces = tt; is_tail = none.is_tail; body_is = refl; elements_are = refl }))
