-- An element at an index of a list, and those before it.
use Rattle.std.proofs.Common.{◌≡◌, ◌≢◌, ℕ, zero, suc, ◌+◌, List, [], ◌∷◌, ◌++◌, take, drop, take-append-drop, slice_get, Some, sym, ap, ◌∙◌, subst, arith}
use Rattle.std.specs.List.{AllByRecursion}
use Rattle.std.proofs.Math.Seq.{take-suc}
use Rattle.std.proofs.lemmas.List.Elements.{All-push}
use Rattle.std.proofs.lemmas.Option.{slice_get_within, get_or_from_slice_get}
use Rattle.rtp_ext.specs.Elements.{Element}
use Rattle.rtp_ext.specs.ElementsInPlace.{HasNone}
use Rattle.rtp_ext.proofs.RawWritingLemmas.{left-more}

pub taken-more : (elements : List Element) (i : ℕ) (element : Element) → slice_get elements i ≡ Some element → take (i + 1) elements ≡ take i elements ++ element ∷ []
taken-more elements i element is =
    let next : i + 1 ≡ suc i = omega arith in
    ap (λ (k : ℕ). take k elements) next ∙ take-suc elements i element (slice_get_within elements i element is)
    ∙ ap (λ (e : Element). take i elements ++ e ∷ []) (get_or_from_slice_get elements i element element is)

pub around : (elements : List Element) (i : ℕ) (element : Element) → slice_get elements i ≡ Some element → elements ≡ take i elements ++ element ∷ drop (i + 1) elements
around elements i element is = sym (take-append-drop i elements) ∙ ap (λ (es : List Element). take i elements ++ es) (left-more elements i element is)

pub none-more : (elements : List Element) (i id : ℕ) (element : Element) → slice_get elements i ≡ Some element → HasNone (take i elements) id → element.0 ≢ id → HasNone (take (i + 1) elements) id
none-more elements i id element is none other =
    subst (λ (es : List Element). HasNone es id) (sym (taken-more elements i element is)) (All-push (λ (e : Element). e.0 ≢ id) (take i elements) element none other)

pub all-at : (P : Element → Type 0) (elements : List Element) (i : ℕ) (element : Element) → AllByRecursion P elements → slice_get elements i ≡ Some element → P element
all-at P [] i element all is = absurd cc
all-at P (first ∷ elements) zero element all is = let same : first ≡ element = cc in subst P same all.0
all-at P (first ∷ elements) (suc i) element all is = all-at P elements i element all.1 is
