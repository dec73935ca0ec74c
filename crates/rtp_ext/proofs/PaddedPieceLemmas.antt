-- The pieces of padding, and of padding and an element after others.
use Rattle.std.proofs.Common.{◌≡◌, ℕ, zero, suc, List, [], ◌∷◌, ◌++◌, replicate, Option, Some, None, refl, ap, ◌∙◌}
use Rattle.std.specs.List.{AllByRecursion, flat_map, filter_map}
use Rattle.std.proofs.lemmas.List.{append-nil}
use Rattle.std.proofs.lemmas.List.Concat.{flat_map-append}
use Rattle.std.proofs.lemmas.List.Elements.{filter_map-append}
use Rattle.rtp_ext.specs.declared.form.ExtensionsForm.{ExtensionsForm}
use Rattle.rtp_ext.specs.Elements.{Element, IsPiece}

abbrev pub pieces_of_padding : ℕ → List (Option Element)
pieces_of_padding count = replicate count None

abbrev pub pieces_with : List (Option Element) → ℕ → Element → List (Option Element)
pieces_with pieces padding element = pieces ++ (pieces_of_padding padding ++ Some element ∷ [])

pub are_padding : (form : ExtensionsForm) (count : ℕ) → AllByRecursion (IsPiece form) (pieces_of_padding count)
are_padding form zero = tt
are_padding form (suc count) = (tt, are_padding form count)

pub bytes_of_padding : (f : Option Element → List ℕ) (count : ℕ) → f None ≡ 0 ∷ [] → flat_map f (pieces_of_padding count) ≡ replicate count 0
bytes_of_padding f zero none = refl
bytes_of_padding f (suc count) none = ap (λ b. b ++ flat_map f (pieces_of_padding count)) none ∙ ap (λ b. 0 ∷ b) (bytes_of_padding f count none)

pub bytes_with : (f : Option Element → List ℕ) (pieces : List (Option Element)) (padding : ℕ) (element : Element) → f None ≡ 0 ∷ []
    → flat_map f (pieces_with pieces padding element) ≡ flat_map f pieces ++ (replicate padding 0 ++ f (Some element))
bytes_with f pieces padding element none =
    flat_map-append f pieces (pieces_of_padding padding ++ Some element ∷ [])
    ∙ ap (λ b. flat_map f pieces ++ b) (flat_map-append f (pieces_of_padding padding) (Some element ∷ [])
    ∙ (ap (λ b. b ++ (f (Some element) ++ [])) (bytes_of_padding f padding none)
    ∙ ap (λ b. replicate padding 0 ++ b) (append-nil (f (Some element)))))

none_in_padding : (count : ℕ) → filter_map (λ (piece : Option Element). piece) (pieces_of_padding count) ≡ []
none_in_padding zero = refl
none_in_padding (suc count) = none_in_padding count

pub elements_with : (pieces : List (Option Element)) (padding : ℕ) (element : Element)
    → filter_map (λ (piece : Option Element). piece) (pieces_with pieces padding element) ≡ filter_map (λ (piece : Option Element). piece) pieces ++ element ∷ []
elements_with pieces padding element =
    filter_map-append (λ (piece : Option Element). piece) pieces (pieces_of_padding padding ++ Some element ∷ [])
    ∙ ap (λ es. filter_map (λ (piece : Option Element). piece) pieces ++ es)
    (filter_map-append (λ (piece : Option Element). piece) (pieces_of_padding padding) (Some element ∷ [])
    ∙ ap (λ es. es ++ element ∷ []) (none_in_padding padding))
