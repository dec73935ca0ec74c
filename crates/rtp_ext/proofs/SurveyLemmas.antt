-- What is known of a body's elements from the front up to an offset.
use Rattle.rtp_ext.proofs.Common.{◌≡◌, ◌≢◌, ℕ, ◌+◌, ◌-◌, Bool, true, false, cond, List, [], ◌∷◌, ◌++◌, length, drop, Option, Some, None, IfNone, length-append, arith, refl, sym, ap, ◌∙◌, subst, filter, append-nil, drop_at, filter-append, ExtensionsForm, Place, Element, element_bytes, elements_bytes, AreElements, BeginsWithNoElement, HasNone, IsNextPlace, IsLastOrNone, IsSurvey, IsSurveyedTo, goes, others}
use Rattle.rtp_ext.proofs.PlaceLemmas.{length-element, length-header-some}
use Rattle.rtp_ext.proofs.PieceLemmas.{AreElements-after, AreElements-none}
use Rattle.rtp_ext.proofs.LastPlaceLemmas.{IsPassed-start, IsPassed-this, IsPassed-other, IsPassed-lies, elements-start, elements-other, elements-this}
use Rattle.rtp_ext.proofs.GatheredLemmas.{goes-this, goes-zero, stays-other, others-gone, row-other}

pub IsSurveyedTo-start : (form : ExtensionsForm) (body : List ℕ) (id : ℕ) → IsSurveyedTo form body 0 id None 0 0
IsSurveyedTo-start form body id = record {
  passed = IsPassed-start form body id;
  count_is = sym (ap (λ es. length (filter (goes id) es)) (elements-start form body id));
  others_are = sym (ap (λ es. length (elements_bytes form (others id es))) (elements-start form body id));
  count_small = omega arith;
  others_small = omega arith;
}

element_len : {form : ExtensionsForm} {body : List ℕ} {at : ℕ} {place : Place} (next : IsNextPlace form body at place)
    → length (element_bytes form (place.id, next.bytes)) ≡ place.end - place.start
element_len {form} {place} next = omega (arith, next.data_is, next.end_is, length-element form place.id next.bytes)

counted : (id : ℕ) (elements : List Element) (element : Element) (same : Bool) → goes id element ≡ same
    → length (filter (goes id) (elements ++ element ∷ [])) ≡ length (filter (goes id) elements) + cond same 1 0
counted id elements element same is =
    ap length (filter-append (goes id) elements (element ∷ []) ∙ ap (λ (b : Bool). filter (goes id) elements ++ cond b (element ∷ []) []) is)
    ∙ (length-append (filter (goes id) elements) (cond same (element ∷ []) []) ∙ ap (λ n. length (filter (goes id) elements) + n) (one same))
  where
    one : (b : Bool) → length (cond b (element ∷ []) []) ≡ cond b 1 0
    one true = refl
    one false = refl

pub IsSurveyedTo-this : {form : ExtensionsForm} {body : List ℕ} {at id : ℕ} {last : Option Place} {count others_len : ℕ} {place : Place}
    → IsSurveyedTo form body at id last count others_len → IsNextPlace form body at place → place.id ≡ id → IsSurveyedTo form body place.end id (Some place) (count + 1) others_len
IsSurveyedTo-this {form} {body} {at} {id} {last} {place} was next this =
    let all = elements-this was.passed next this in
    record {
      passed = IsPassed-this form body at id last place was.passed next this;
      count_is = omega (arith, was.count_is, ap (λ es. length (filter (goes id) es)) all, counted id was.passed.elements (place.id, next.bytes) true (goes-this id (place.id, next.bytes) this));
      others_are = was.others_are ∙ sym (ap (λ es. length (elements_bytes form (others id es))) all
          ∙ ap (λ es. length (elements_bytes form es)) (others-gone id was.passed.elements (place.id, next.bytes) (goes-this id (place.id, next.bytes) this)));
      count_small = omega (arith, was.count_small, next.start_is, next.data_is, next.end_is, length-header-some form place.id (length next.bytes));
      others_small = omega (arith, was.others_small, next.start_is, next.data_is, next.end_is);
    }

pub IsSurveyedTo-zero : {form : ExtensionsForm} {body : List ℕ} {at id : ℕ} {last : Option Place} {count others_len : ℕ} {place : Place}
    → IsSurveyedTo form body at id last count others_len → IsNextPlace form body at place → place.id ≢ id → place.id ≡ 0
    → IsSurveyedTo form body place.end id last (count + 1) others_len
IsSurveyedTo-zero {form} {body} {at} {id} {last} {place} was next other zero_id =
    let all = elements-other was.passed next other in
    let gone = goes-zero id (place.id, next.bytes) zero_id in
    record {
      passed = IsPassed-other form body at id last place was.passed next other;
      count_is = omega (arith, was.count_is, ap (λ es. length (filter (goes id) es)) all, counted id was.passed.elements (place.id, next.bytes) true gone);
      others_are = was.others_are ∙ sym (ap (λ es. length (elements_bytes form (others id es))) all
          ∙ ap (λ es. length (elements_bytes form es)) (others-gone id was.passed.elements (place.id, next.bytes) gone));
      count_small = omega (arith, was.count_small, next.start_is, next.data_is, next.end_is, length-header-some form place.id (length next.bytes));
      others_small = omega (arith, was.others_small, next.start_is, next.data_is, next.end_is);
    }

pub IsSurveyedTo-other : {form : ExtensionsForm} {body : List ℕ} {at id : ℕ} {last : Option Place} {count others_len : ℕ} {place : Place}
    → IsSurveyedTo form body at id last count others_len → IsNextPlace form body at place → place.id ≢ id → place.id ≢ 0
    → IsSurveyedTo form body place.end id last count (others_len + (place.end - place.start))
IsSurveyedTo-other {form} {body} {at} {id} {last} {place} was next other above =
    let all = elements-other was.passed next other in
    let row : List ℕ = elements_bytes form (others id was.passed.elements) in
    record {
      passed = IsPassed-other form body at id last place was.passed next other;
      count_is = omega (arith, was.count_is, ap (λ es. length (filter (goes id) es)) all, counted id was.passed.elements (place.id, next.bytes) false (stays-other id (place.id, next.bytes) other above));
      others_are = omega (
        arith,
        was.others_are,
        ap (λ es. length (elements_bytes form (others id es))) all,
        ap length (row-other form id was.passed.elements (place.id, next.bytes) other above),
        length-append row (element_bytes form (place.id, next.bytes)),
        element_len next,
      );
      count_small = omega (arith, was.count_small, next.start_is, next.data_is, next.end_is);
      others_small = omega (arith, was.others_small, next.start_is, next.data_is, next.end_is);
    }

none_known : (form : ExtensionsForm) (id : ℕ) (bytes : List ℕ) (elements : List Element) (last : Option Place) → IsLastOrNone form id bytes elements last → IfNone last (HasNone elements id)
none_known form id bytes elements None none = none
none_known form id bytes elements (Some place) is = tt

-- where reading ends
pub IsSurvey-end : {form : ExtensionsForm} {body : List ℕ} {at id : ℕ} {last : Option Place} {count others_len : ℕ} → IsSurveyedTo form body at id last count others_len
    → BeginsWithNoElement form (drop at body) → IsSurvey form body id (record { last = last; count = count; others_len = others_len; end = at })
IsSurvey-end {form} {at} {id} {last} was none =
    let p = was.passed in
    let left : AreElements form p.left [] =
    subst (λ b. AreElements form b []) (ap (drop at) p.body_is ∙ drop_at p.passed p.left at (sym p.at_is)) (AreElements-none none) in
    record {
      elements = p.elements;
      are_elements = subst (λ b. AreElements form b p.elements) (sym p.body_is)
          (subst (AreElements form (p.passed ++ p.left)) (append-nil p.elements)
          (AreElements-after form p.passed p.left p.elements [] p.are_whole left));
      last_is = IsPassed-lies last p none;
      none_is = none_known form id p.passed p.elements last p.last_is;
      count_is = was.count_is;
      others_are = was.others_are;
      others_within = omega (arith, was.others_small, p.at_is, ap length p.body_is, length-append p.passed p.left);
      read = p;
      all_read = refl;
      none_left = left;
    }
