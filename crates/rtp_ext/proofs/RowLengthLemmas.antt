-- How long the elements of a body are in a row, in the form that they have or in the other one.
use Rattle.std.proofs.Common.{◌≡◌, ◌≢◌, ℕ, ◌+◌, ◌-◌, ◌*◌, ◌≤◌, Bool, true, false, not, cond, List, [], ◌∷◌, ◌++◌, length, take, drop, replicate, append_assoc, length-append, arith, refl, sym, ap, ◌∙◌, subst}
use Rattle.std.specs.List.{AllByRecursion}
use Rattle.std.proofs.lemmas.List.{append-nil, drop_at, take_at, drop-drop, length-replicate}
use Rattle.rtp_ext.specs.declared.form.ExtensionsForm.{ExtensionsForm}
use Rattle.rtp_ext.specs.declared.form.ExtensionsForm.TheVariants.{OneByte, TwoByte}
use Rattle.rtp_ext.specs.declared.place.Place.{Place}
use Rattle.rtp_ext.specs.Elements.{Element, element_bytes, elements_bytes, AreElements}
use Rattle.rtp_ext.specs.ElementReading.{BeginsWithNoElement, elements_left}
use Rattle.rtp_ext.specs.ElementWriting.{element_header}
use Rattle.rtp_ext.specs.ElementsInARow.{IsWritable}
use Rattle.rtp_ext.specs.ElementPlaces.{IsNextPlace}
use Rattle.rtp_ext.specs.BodySurvey.{IsRowLengthTo}
use Rattle.rtp_ext.proofs.ElementLemmasOfBodies.{AreElements-only}
use Rattle.rtp_ext.proofs.PieceLemmas.{AllByRecursion-append, AreElements-none}
use Rattle.rtp_ext.proofs.PlaceLemmas.{length-element, element_bytes-split}
use Rattle.rtp_ext.specs.BodySurvey.{goes, others}
use Rattle.rtp_ext.proofs.GatheredLemmas.{others-gone, others-other, row-other, stays-other}
use Rattle.rtp_ext.proofs.RenumberingLemmas.{elements_left-next}

-- one of those that stay stays
kept_of : (P : Element → Type 0) (id : ℕ) (element : Element) (xs ys : List Element) → goes id element ≡ false → AllByRecursion P (others id (xs ++ element ∷ ys)) → P element
kept_of P id element [] ys stays all = (subst (λ (b : Bool). AllByRecursion P (cond (not b) (element ∷ others id ys) (others id ys))) stays all).0
kept_of P id element (x ∷ xs) ys stays all = by_test (goes id x) (kept_of P id element xs ys stays) all
  where
    by_test : (b : Bool) → (AllByRecursion P (others id (xs ++ element ∷ ys)) → P element)
        → AllByRecursion P (cond (not b) (x ∷ others id (xs ++ element ∷ ys)) (others id (xs ++ element ∷ ys))) → P element
    by_test true kept rest = kept rest
    by_test false kept rest = kept rest.1

pub IsRowLengthTo-start : (form new_form : ExtensionsForm) (id : ℕ) (body : List ℕ) → IsRowLengthTo form new_form id body 0 0
IsRowLengthTo-start form new_form id body = record { passed = []; elements_are = refl; len_is = refl; are_carried = tt; small = omega arith; within = omega arith }

header-some : (form : ExtensionsForm) (id len : ℕ) → 1 ≤ length (element_header form id len)
header-some OneByte id len = omega arith
header-some TwoByte id len = omega arith

header-most : (form other : ExtensionsForm) (id len other_len : ℕ) → length (element_header form id len) ≤ 2 * length (element_header other id other_len)
header-most OneByte OneByte id len other_len = omega arith
header-most OneByte TwoByte id len other_len = omega arith
header-most TwoByte OneByte id len other_len = omega arith
header-most TwoByte TwoByte id len other_len = omega arith

module _ (form new_form : ExtensionsForm) (id : ℕ) (body : List ℕ) (at len : ℕ) (place : Place) (was : IsRowLengthTo form new_form id body at len) (next : IsNextPlace form body at place) where
  element : Element
  element = (place.id, next.bytes)

  after_is : drop place.end body ≡ next.after
  after_is =
      let here : List ℕ = replicate next.padding 0 ++ element_bytes form (place.id, next.bytes) in
      let long : length here ≡ place.end - at =
      omega (
        arith,
        next.start_is,
        next.data_is,
        next.end_is,
        length-element form place.id next.bytes,
        length-append (replicate next.padding 0) (element_bytes form (place.id, next.bytes)),
        length-replicate {A = ℕ} next.padding 0,
      ) in
      let k : place.end ≡ at + (place.end - at) = omega (arith, next.start_is, next.data_is, next.end_is) in
      ap (λ (n : ℕ). drop n body) k ∙ sym (drop-drop (place.end - at) at body)
      ∙ ap (drop (place.end - at)) (next.left_is ∙ sym (append_assoc (replicate next.padding 0) (element_bytes form (place.id, next.bytes)) next.after))
      ∙ drop_at here next.after (place.end - at) long

  elements_next : elements_left form body ≡ was.passed ++ element ∷ elements_left form next.after
  unfolding element
  elements_next =
      was.elements_are
      ∙ ap (λ (es : List Element). was.passed ++ es)
      (ap (elements_left form) next.left_is ∙ elements_left-next form next.padding (place.id, next.bytes) next.after next.is_element)

  all_next : elements_left form body ≡ (was.passed ++ element ∷ []) ++ elements_left form (drop place.end body)
  all_next =
      elements_next ∙ ap (λ (xs : List ℕ). was.passed ++ element ∷ elements_left form xs) (sym after_is)
      ∙ sym (append_assoc was.passed (element ∷ []) (elements_left form (drop place.end body)))

  further : at + 1 ≤ place.end
  further = omega (arith, next.start_is, next.data_is, next.end_is, header-some form place.id (length next.bytes))

  pub IsRowLengthTo-gone : goes id (place.id, next.bytes) ≡ true → IsRowLengthTo form new_form id body place.end len
  unfolding element
  IsRowLengthTo-gone gone = record {
    passed = was.passed ++ (place.id, next.bytes) ∷ [];
    elements_are = all_next;
    len_is = was.len_is ∙ ap (λ es. length (elements_bytes new_form es)) (sym (others-gone id was.passed (place.id, next.bytes) gone));
    are_carried = subst (AllByRecursion (IsWritable new_form)) (sym (others-gone id was.passed (place.id, next.bytes) gone)) was.are_carried;
    small = let s = was.small in omega (arith, further);
    within = omega (arith, next.within);
  }

  pub IsRowLengthTo-other : (header n : ℕ) → place.id ≢ id → place.id ≢ 0 → IsWritable new_form (place.id, next.bytes) → header ≡ length (element_header new_form place.id n) → n ≡ length next.bytes
      → IsRowLengthTo form new_form id body place.end (len + (header + n))
  unfolding element
  IsRowLengthTo-other header n other above writable header-is n-is = record {
    passed = was.passed ++ (place.id, next.bytes) ∷ [];
    elements_are = all_next;
    len_is = omega (
      arith,
      header-is,
      n-is,
      ap (λ (k : ℕ). length (element_header new_form place.id k)) n-is,
      length-element new_form place.id next.bytes,
      was.len_is,
      ap length (row-other new_form id was.passed (place.id, next.bytes) other above),
      length-append (elements_bytes new_form (others id was.passed)) (element_bytes new_form (place.id, next.bytes)),
    );
    are_carried = subst (AllByRecursion (IsWritable new_form)) (sym (others-other id was.passed (place.id, next.bytes) other above))
        (AllByRecursion-append (IsWritable new_form) (others id was.passed) ((place.id, next.bytes) ∷ []) was.are_carried (writable, tt));
    small = let s = was.small in omega (arith, next.start_is, next.data_is, next.end_is, header-is, n-is, header-most new_form form place.id n (length next.bytes));
    within = omega (arith, next.within);
  }

  abbrev content : List ℕ
  content = take (place.end - place.data_start) (drop place.data_start body)

  pub content-is : content ≡ next.bytes
  content-is =
      let header : List ℕ = element_header form place.id (length next.bytes) in
      let front : List ℕ = replicate next.padding 0 ++ header in
      let split : drop at body ≡ front ++ (next.bytes ++ next.after) =
      next.left_is
      ∙ ap (λ (xs : List ℕ). replicate next.padding 0 ++ (xs ++ next.after)) (element_bytes-split form place.id next.bytes)
      ∙ simp append_assoc in
      let long : length front ≡ place.data_start - at =
      omega (arith, next.start_is, next.data_is, length-append (replicate next.padding 0) header, length-replicate {A = ℕ} next.padding 0) in
      let k : place.data_start ≡ at + (place.data_start - at) = omega (arith, next.start_is, next.data_is) in
      let count : place.end - place.data_start ≡ length next.bytes = omega (arith, next.end_is) in
      ap (λ (n : ℕ). take (place.end - place.data_start) (drop n body)) k
      ∙ ap (take (place.end - place.data_start)) (sym (drop-drop (place.data_start - at) at body) ∙ ap (drop (place.data_start - at)) split ∙ drop_at front (next.bytes ++ next.after) (place.data_start - at) long)
      ∙ take_at next.bytes next.after (place.end - place.data_start) (sym count)

  pub not-carried : (elements : List Element) → place.id ≢ id → place.id ≢ 0 → (IsWritable new_form (place.id, content) → ⊥) → AreElements form body elements
      → AllByRecursion (IsWritable new_form) (others id elements) → ⊥
  unfolding element
  not-carried elements other above unwritable are all =
      unwritable (subst (λ (xs : List ℕ). IsWritable new_form (place.id, xs)) (sym content-is)
      (kept_of (IsWritable new_form) id (place.id, next.bytes) was.passed (elements_left form next.after) (stays-other id (place.id, next.bytes) other above)
      (subst (λ (es : List Element). AllByRecursion (IsWritable new_form) (others id es)) (AreElements-only form body elements are ∙ elements_next) all)))

-- where reading ends
module _ (form new_form : ExtensionsForm) (id : ℕ) (body : List ℕ) (at len : ℕ) (was : IsRowLengthTo form new_form id body at len) (none : BeginsWithNoElement form (drop at body))
    (elements : List Element) (are : AreElements form body elements) where
  all_passed : elements ≡ was.passed
  all_passed =
      AreElements-only form body elements are ∙ was.elements_are
      ∙ ap (λ (es : List Element). was.passed ++ es) (sym (AreElements-only form (drop at body) [] (AreElements-none none)))
      ∙ append-nil was.passed

  pub row-length : len ≡ length (elements_bytes new_form (others id elements))
  row-length = was.len_is ∙ ap (λ (es : List Element). length (elements_bytes new_form (others id es))) (sym all_passed)

  pub row-carried : AllByRecursion (IsWritable new_form) (others id elements)
  row-carried = subst (λ (es : List Element). AllByRecursion (IsWritable new_form) (others id es)) (sym all_passed) was.are_carried
