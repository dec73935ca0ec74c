-- The elements of a body without those of an id, and of the id 0, in a row.
use Rattle.rtp_ext.proofs.Common.{◌≡◌, ◌≢◌, ℕ, ◌+◌, ◌-◌, ◌≤◌, Bool, not, ◌||◌, cond, List, [], ◌∷◌, ◌++◌, length, take, drop, replicate, append_assoc, length-append, length-drop, take-append-drop, arith, refl, sym, ap, ◌∙◌, subst, eq-eqb, ne_eqb, append-nil, drop_at, take_at, length-replicate, drop-drop, drop-append-le, flat_map-append, filter-append, paste, ExtensionsForm, Place, Element, element_bytes, elements_bytes, AreElements, BeginsWithNoElement, IsNextPlace, AreWhole, IsGathered, IsGatheredTo, has_id, without, goes, others, true, false, false≢true, AllByRecursion}
use Rattle.rtp_ext.proofs.PlaceLemmas.{left_next, length-element}
use Rattle.rtp_ext.proofs.PieceLemmas.{AreWhole-nil, AreWhole-append, AreWhole-next, AreElements-after, AreElements-none}

-- what all elements but those of an id have
pub without-weaker : (P Q : Element → Type 0) (id : ℕ) (elements : List Element) → ((element : Element) → element.0 ≢ id → P element → Q element) → AllByRecursion P elements
    → AllByRecursion Q (without id elements)
without-weaker P Q id [] weaker all = tt
without-weaker P Q id (element ∷ elements) weaker all =
    by_test (has_id id element) (λ other. weaker element (λ same. false≢true (sym other ∙ eq-eqb element.0 id same)) all.0) (without-weaker P Q id elements weaker all.1)
  where
    by_test : (b : Bool) → (b ≡ false → Q element) → AllByRecursion Q (without id elements) → AllByRecursion Q (cond (not b) (element ∷ without id elements) (without id elements))
    by_test true is rest = rest
    by_test false is rest = (is refl, rest)

-- one more element, of the id or of another
pub without-this : {id : ℕ} (elements : List Element) (element : Element) → element.0 ≡ id → without id (elements ++ element ∷ []) ≡ without id elements
without-this {id} elements element this =
    filter-append (λ (e : Element). not (has_id id e)) elements (element ∷ [])
    ∙ ap (λ (b : Bool). without id elements ++ cond (not b) (element ∷ []) []) (eq-eqb element.0 id this)
    ∙ append-nil (without id elements)

pub without-other : (id : ℕ) (elements : List Element) (element : Element) → element.0 ≢ id → without id (elements ++ element ∷ []) ≡ without id elements ++ element ∷ []
without-other id elements element other =
    filter-append (λ (e : Element). not (has_id id e)) elements (element ∷ [])
    ∙ ap (λ (b : Bool). without id elements ++ cond (not b) (element ∷ []) []) (ne_eqb element.0 id other)

-- ---- elements of an id and of the id 0

pub or_true : (b : Bool) → (b || true) ≡ true
or_true true = refl
or_true false = refl

pub goes-this : (id : ℕ) (element : Element) → element.0 ≡ id → goes id element ≡ true
goes-this id element this = ap (λ (b : Bool). b || has_id 0 element) (eq-eqb element.0 id this)

pub goes-zero : (id : ℕ) (element : Element) → element.0 ≡ 0 → goes id element ≡ true
goes-zero id element zero_id = ap (λ (b : Bool). has_id id element || b) (eq-eqb element.0 0 zero_id) ∙ or_true (has_id id element)

pub stays-other : (id : ℕ) (element : Element) → element.0 ≢ id → element.0 ≢ 0 → goes id element ≡ false
stays-other id element other above =
    ap (λ (b : Bool). b || has_id 0 element) (ne_eqb element.0 id other) ∙ ne_eqb element.0 0 above

-- one more element, that goes or stays
pub others-gone : (id : ℕ) (elements : List Element) (element : Element) → goes id element ≡ true → others id (elements ++ element ∷ []) ≡ others id elements
others-gone id elements element gone =
    filter-append (λ (e : Element). not (goes id e)) elements (element ∷ [])
    ∙ ap (λ (b : Bool). others id elements ++ cond (not b) (element ∷ []) []) gone
    ∙ append-nil (others id elements)

pub others-other : (id : ℕ) (elements : List Element) (element : Element) → element.0 ≢ id → element.0 ≢ 0
    → others id (elements ++ element ∷ []) ≡ others id elements ++ element ∷ []
others-other id elements element other above =
    filter-append (λ (e : Element). not (goes id e)) elements (element ∷ [])
    ∙ ap (λ (b : Bool). others id elements ++ cond (not b) (element ∷ []) []) (stays-other id element other above)

or_same : (b : Bool) → (b || b) ≡ b
or_same true = refl
or_same false = refl

pub others-0 : (elements : List Element) → others 0 elements ≡ without 0 elements
others-0 [] = refl
others-0 (element ∷ elements) =
    ap (λ (b : Bool). cond (not b) (element ∷ others 0 elements) (others 0 elements)) (or_same (has_id 0 element))
    ∙ ap (λ es. cond (not (has_id 0 element)) (element ∷ es) es) (others-0 elements)

pub others-twice : (id : ℕ) (elements : List Element) → others id elements ≡ without 0 (without id elements)
others-twice id [] = refl
others-twice id (element ∷ elements) = by_test (has_id id element) refl (others-twice id elements)
  where
    by_test : (b : Bool) → has_id id element ≡ b → others id elements ≡ without 0 (without id elements)
        → cond (not (has_id id element || has_id 0 element)) (element ∷ others id elements) (others id elements)
        ≡ without 0 (cond (not (has_id id element)) (element ∷ without id elements) (without id elements))
    by_test true is rest =
        ap (λ (t : Bool). cond (not (t || has_id 0 element)) (element ∷ others id elements) (others id elements)) is
        ∙ (rest ∙ ap (λ (t : Bool). without 0 (cond (not t) (element ∷ without id elements) (without id elements))) (sym is))
    by_test false is rest =
        ap (λ (t : Bool). cond (not (t || has_id 0 element)) (element ∷ others id elements) (others id elements)) is
        ∙ (ap (λ es. cond (not (has_id 0 element)) (element ∷ es) es) rest
        ∙ ap (λ (t : Bool). without 0 (cond (not t) (element ∷ without id elements) (without id elements))) (sym is))

pub elements_bytes-append : (form : ExtensionsForm) (xs ys : List Element) → elements_bytes form (xs ++ ys) ≡ elements_bytes form xs ++ elements_bytes form ys
elements_bytes-append form xs ys = flat_map-append (element_bytes form) xs ys

pub row-other : (form : ExtensionsForm) (id : ℕ) (elements : List Element) (element : Element) → element.0 ≢ id → element.0 ≢ 0
    → elements_bytes form (others id (elements ++ element ∷ [])) ≡ elements_bytes form (others id elements) ++ element_bytes form element
row-other form id elements element other above =
    ap (elements_bytes form) (others-other id elements element other above)
    ∙ (elements_bytes-append form (others id elements) (element ∷ [])
    ∙ ap (λ b. elements_bytes form (others id elements) ++ b) (append-nil (element_bytes form element)))

-- bytes that are copied onto themselves
pub paste-same : (body : List ℕ) (at n : ℕ) → paste body at (drop at body) n ≡ body
paste-same body at n =
    ap (λ b. take at body ++ take n (drop at body) ++ b) (sym (drop-drop n at body))
    ∙ (append_assoc (take at body) (take n (drop at body)) (drop n (drop at body))
    ∙ (ap (λ b. take at body ++ b) (take-append-drop n (drop at body)) ∙ take-append-drop at body))

pub IsGatheredTo-start : (form : ExtensionsForm) (id : ℕ) (body : List ℕ) → IsGatheredTo form id body body 0 0
IsGatheredTo-start form id body = record {
  passed = [];
  gap = [];
  left = body;
  elements = [];
  are_whole = AreWhole-nil form;
  old_is = refl;
  new_is = refl;
  at_is = refl;
  len_is = refl;
  gap_is = refl;
}

module _ {form : ExtensionsForm} {id : ℕ} {old body : List ℕ} {at len : ℕ} {place : Place} (was : IsGatheredTo form id old body at len) (next : IsNextPlace form body at place) where
  element : Element
  element = (place.id, next.bytes)

  row : List ℕ
  row = elements_bytes form (others id was.elements)

  here : List ℕ
  here = replicate next.padding 0 ++ element_bytes form (place.id, next.bytes)

  front_is : body ≡ (row ++ was.gap) ++ was.left
  unfolding row
  front_is = was.new_is ∙ sym (append_assoc row was.gap was.left)

  front_len : at ≡ length (row ++ was.gap)
  unfolding row
  front_len = omega (arith, was.gap_is, was.len_is, length-append row was.gap)

  left_is : was.left ≡ here ++ next.after
  unfolding here
  left_is = left_next (row ++ was.gap) was.left front_is front_len next
      ∙ sym (append_assoc (replicate next.padding 0) (element_bytes form (place.id, next.bytes)) next.after)

  here_len : length here ≡ next.padding + (place.end - place.start)
  unfolding here
  here_len =
      omega (
        arith,
        next.data_is,
        next.end_is,
        length-element form place.id next.bytes,
        length-append (replicate next.padding 0) (element_bytes form (place.id, next.bytes)),
        length-replicate {A = ℕ} next.padding 0,
      )

  element_len : length (element_bytes form (place.id, next.bytes)) ≡ place.end - place.start
  element_len = omega (arith, next.data_is, next.end_is, length-element form place.id next.bytes)

  old_next : old ≡ (was.passed ++ here) ++ next.after
  old_next = was.old_is ∙ (ap (λ b. was.passed ++ b) left_is ∙ sym (append_assoc was.passed here next.after))

  at_next : place.end ≡ length (was.passed ++ here)
  at_next = omega (arith, next.start_is, next.data_is, next.end_is, was.at_is, here_len, length-append was.passed here)

  whole_next : AreWhole form (was.passed ++ here) (was.elements ++ (place.id, next.bytes) ∷ [])
  unfolding here
  whole_next = AreWhole-append
      was.are_whole (AreWhole-next form next.padding (place.id, next.bytes) next.is_element)

  -- one that goes stays behind
  pub IsGatheredTo-gone : goes id (place.id, next.bytes) ≡ true → IsGatheredTo form id old body place.end len
  unfolding row
  IsGatheredTo-gone gone = record {
    passed = was.passed ++ here;
    gap = was.gap ++ here;
    left = next.after;
    elements = was.elements ++ (place.id, next.bytes) ∷ [];
    are_whole = whole_next;
    old_is = old_next;
    new_is = was.new_is ∙ (ap (λ b. row ++ (was.gap ++ b)) left_is ∙ (ap (λ b. row ++ b) (sym (append_assoc was.gap here next.after))
        ∙ ap (λ es. elements_bytes form es ++ ((was.gap ++ here) ++ next.after)) (sym (others-gone id was.elements (place.id, next.bytes) gone))));
    at_is = at_next;
    len_is = was.len_is ∙ ap (λ es. length (elements_bytes form es)) (sym (others-gone id was.elements (place.id, next.bytes) gone));
    gap_is = omega (arith, was.gap_is, length-append was.gap here, here_len, next.start_is, next.data_is, next.end_is);
  }

  -- what comes after the row
  rest_is : drop len body ≡ (was.gap ++ here) ++ next.after
  unfolding row
  rest_is =
      ap (drop len) was.new_is ∙ (drop_at row (was.gap ++ was.left) len (sym was.len_is)
      ∙ (ap (λ b. was.gap ++ b) left_is ∙ sym (append_assoc was.gap here next.after)))

  moved : List ℕ
  moved = drop (place.end - place.start) (was.gap ++ here)

  bytes_at : take (place.end - place.start) (drop place.start body) ≡ element_bytes form (place.id, next.bytes)
  bytes_at =
      let skipped : List ℕ = (row ++ was.gap) ++ replicate next.padding 0 in
      let split : body ≡ skipped ++ (element_bytes form (place.id, next.bytes) ++ next.after) =
      front_is ∙ (ap (λ b. (row ++ was.gap) ++ b) (left_next (row ++ was.gap) was.left front_is front_len next)
      ∙ sym (append_assoc (row ++ was.gap) (replicate next.padding 0) (element_bytes form (place.id, next.bytes) ++ next.after))) in
      let start : length skipped ≡ place.start =
      omega (arith, next.start_is, front_len, length-append (row ++ was.gap) (replicate next.padding 0), length-replicate {A = ℕ} next.padding 0) in
      ap (take (place.end - place.start)) (ap (drop place.start) split ∙ drop_at skipped (element_bytes form (place.id, next.bytes) ++ next.after) place.start start)
      ∙ take_at (element_bytes form (place.id, next.bytes)) next.after (place.end - place.start) element_len

  -- another one is moved to the end of the row
  pub IsGatheredTo-other : (new : List ℕ) → place.id ≢ id → place.id ≢ 0 → new ≡ paste body len (drop place.start body) (place.end - place.start)
      → IsGatheredTo form id old new place.end (len + (place.end - place.start))
  unfolding row moved
  IsGatheredTo-other new other above new_is =
      let n : ℕ = place.end - place.start in
      let bytes : List ℕ = element_bytes form (place.id, next.bytes) in
      let grown : elements_bytes form (others id (was.elements ++ (place.id, next.bytes) ∷ [])) ≡ row ++ bytes =
      row-other form id was.elements (place.id, next.bytes) other above in
      let front : take len body ≡ row = ap (take len) was.new_is ∙ take_at row (was.gap ++ was.left) len (sym was.len_is) in
      let rest : drop (len + n) body ≡ moved ++ next.after =
      sym (drop-drop n len body) ∙ (ap (drop n) rest_is ∙ drop-append-le n (was.gap ++ here) next.after (omega (arith, length-append was.gap here, here_len))) in
      record {
        passed = was.passed ++ here;
        gap = moved;
        left = next.after;
        elements = was.elements ++ (place.id, next.bytes) ∷ [];
        are_whole = whole_next;
        old_is = old_next;
        new_is = new_is ∙ (ap (λ b. b ++ take n (drop place.start body) ++ drop (len + n) body) front
            ∙ (ap (λ b. row ++ b ++ drop (len + n) body) bytes_at ∙ (ap (λ b. row ++ bytes ++ b) rest
            ∙ ap (λ b. b ++ (moved ++ next.after)) (sym grown))));
        at_is = at_next;
        len_is = omega (arith, ap length grown, length-append row bytes, was.len_is, element_len);
        gap_is = omega (arith, was.gap_is, length-append was.gap here, here_len, next.start_is, next.data_is, next.end_is, length-drop n (was.gap ++ here));
      }

-- an element that stands at the end of the row already
pub start-same : {form : ExtensionsForm} {id : ℕ} {old body : List ℕ} {at len : ℕ} {place : Place} → IsGatheredTo form id old body at len → IsNextPlace form body at place
    → place.start ≤ len → body ≡ paste body len (drop place.start body) (place.end - place.start)
start-same {body} {len} {place} was next early =
    let same : place.start ≡ len = omega (arith, was.gap_is, next.start_is) in
    sym (ap (λ k. paste body len (drop k body) (place.end - place.start)) same ∙ paste-same body len (place.end - place.start))

-- where reading ends
pub IsGathered-end : {form : ExtensionsForm} {id : ℕ} {old body : List ℕ} {at len : ℕ} → IsGatheredTo form id old body at len → BeginsWithNoElement form (drop at body)
    → IsGathered form id old body len
IsGathered-end {form} {id} {body} {at} {len} was none =
    let row : List ℕ = elements_bytes form (others id was.elements) in
    let front_len : at ≡ length (row ++ was.gap) = omega (arith, was.gap_is, was.len_is, length-append row was.gap) in
    let left : drop at body ≡ was.left =
    ap (drop at) (was.new_is ∙ sym (append_assoc row was.gap was.left)) ∙ drop_at (row ++ was.gap) was.left at (sym front_len) in
    record {
      elements = was.elements;
      are_elements = subst (λ b. AreElements form b was.elements) (sym was.old_is)
          (subst (AreElements form (was.passed ++ was.left)) (append-nil was.elements)
          (AreElements-after form was.passed was.left was.elements [] was.are_whole
          (subst (λ b. AreElements form b []) left (AreElements-none none))));
      row_is = ap (take len) was.new_is ∙ take_at row (was.gap ++ was.left) len (sym was.len_is);
      len_is = was.len_is;
      length_is = omega (arith, ap length was.new_is, ap length was.old_is, was.at_is, was.gap_is, was.len_is, length-append row (was.gap ++ was.left), length-append was.gap was.left, length-append was.passed was.left);
      within = omega (arith, ap length was.old_is, was.at_is, was.gap_is, length-append was.passed was.left);
    }
