-- Elements of which none has the id 0.
use Rattle.std.proofs.Common.{◌≡◌, ◌≢◌, Bool, true, false, not, cond, List, [], ◌∷◌, refl, sym, subst, ◌∙◌}
use Rattle.std.specs.List.{list_any}
use Rattle.std.proofs.lemmas.Bool.{eq-eqb, false≢true}
use Rattle.std.proofs.lemmas.List.Elements.{All-nil, All-cons, All-head, All-tail}
use Rattle.rtp_ext.specs.Elements.{Element}
use Rattle.rtp_ext.specs.ElementsInPlace.{HasNone}
use Rattle.rtp_ext.specs.PutElement.{has_id, without, put_element}

abbrev SomeId : Element → Type 0
SomeId element = element.0 ≢ 0

none_zero-either : (new element : Element) (elements put : List Element) → new.0 ≢ 0 → HasNone (element ∷ elements) 0 → HasNone put 0 → (here later : Bool)
    → HasNone (cond here (cond later put (new ∷ elements)) (element ∷ put)) 0
none_zero-either new element elements put some none put_none true true = put_none
none_zero-either new element elements put some none put_none true false = All-cons SomeId new elements some (All-tail SomeId element elements none)
none_zero-either new element elements put some none put_none false later = All-cons SomeId element put (All-head SomeId element elements none) put_none

pub none_zero-put : (new : Element) (elements : List Element) → new.0 ≢ 0 → HasNone elements 0 → HasNone (put_element new elements) 0
none_zero-put new [] some none = All-cons SomeId new [] some (All-nil SomeId)
none_zero-put new (element ∷ elements) some none =
    none_zero-either new element elements (put_element new elements) some none (none_zero-put new elements some (All-tail SomeId element elements none)) (has_id new.0 element)
    (list_any (has_id new.0) elements)

pub none_zero-without : (elements : List Element) → HasNone (without 0 elements) 0
none_zero-without [] = All-nil SomeId
none_zero-without (element ∷ elements) = by_test (none_zero-without elements) (has_id 0 element) refl
  where
    by_test : HasNone (without 0 elements) 0 → (zero : Bool) → has_id 0 element ≡ zero → HasNone (without 0 (element ∷ elements)) 0
    by_test rest true is = subst (λ (b : Bool). HasNone (cond (not b) (element ∷ without 0 elements) (without 0 elements)) 0) (sym is) rest
    by_test rest false is =
        subst (λ (b : Bool). HasNone (cond (not b) (element ∷ without 0 elements) (without 0 elements)) 0) (sym is)
        (All-cons SomeId element (without 0 elements) (λ same. false≢true (sym is ∙ eq-eqb element.0 0 same)) rest)
