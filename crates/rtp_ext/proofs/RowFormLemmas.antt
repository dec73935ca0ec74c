-- Elements of one form in a row, put in another form one after another.
use Rattle.std.proofs.Common.{◌≡◌, ℕ, zero, suc, ◌+◌, ◌-◌, ◌*◌, ◌≤◌, List, [], ◌∷◌, ◌++◌, length, take, drop, replicate, append_assoc, length-append, length-drop, arith, refl, sym, ap, ◌∙◌, subst}
use Rattle.std.specs.List.{AllByRecursion}
use Rattle.std.proofs.lemmas.List.{append-nil, append_cancel_left}
use lib.Seq.{paste}
use Rattle.rtp_base.specs.Overwriting.{overwritten}
use Rattle.rtp_ext.specs.declared.form.ExtensionsForm.{ExtensionsForm}
use Rattle.rtp_ext.specs.declared.form.ExtensionsForm.TheVariants.{OneByte, TwoByte}
use Rattle.rtp_ext.specs.declared.place.Place.{Place}
use Rattle.rtp_ext.specs.Elements.{Element, IsElement, element_bytes, elements_bytes, AreElements}
use Rattle.rtp_ext.specs.ElementReading.{BeginsWithNoElement, elements_left}
use Rattle.rtp_ext.specs.ElementWriting.{element_header}
use Rattle.rtp_ext.specs.ElementsInARow.{IsWritable}
use Rattle.rtp_ext.specs.ElementPlaces.{IsNextPlace}
use Rattle.rtp_ext.specs.BodySurvey.{IsRowFor, ChangesRow, ChangesRowTo}
use Rattle.rtp_ext.proofs.ElementLemmasOfBodies.{elements_left-element}
use Rattle.rtp_ext.proofs.PieceLemmas.{AllByRecursion-append, AreElements-none}
use Rattle.rtp_ext.proofs.LastPlaceLemmas.{AreElements-same}
use Rattle.rtp_ext.proofs.WrittenElementsLemmas.{AreElements-in_a_row}
use Rattle.rtp_ext.proofs.ServingFormLemmas.{length-two}
use Rattle.rtp_ext.proofs.GatheredLemmas.{elements_bytes-append}
use Rattle.rtp_ext.proofs.MovedElementLemmas.{moved}
use Rattle.rtp_ext.proofs.PlaceLemmas.{element_bytes-split, length-element}

pub each_element : (form : ExtensionsForm) (elements : List Element) → AllByRecursion (IsWritable form) elements → AllByRecursion (IsElement form) elements
each_element form [] all = tt
each_element form (element ∷ elements) all = (all.0.1, each_element form elements all.1)

-- a row has one list of elements
pub row-read : (form : ExtensionsForm) (elements : List Element) → AllByRecursion (IsElement form) elements → AreElements form (elements_bytes form elements) elements
row-read form elements all = subst (λ b. AreElements form b elements) (append-nil (elements_bytes form elements)) (AreElements-in_a_row form elements 0 all)

pub row-same : (form : ExtensionsForm) (xs ys : List Element) → AllByRecursion (IsElement form) xs → AllByRecursion (IsElement form) ys → elements_bytes form xs ≡ elements_bytes form ys → xs ≡ ys
row-same form xs ys all others same =
    AreElements-same form (elements_bytes form ys) xs ys (subst (λ b. AreElements form b xs) same (row-read form xs all)) (row-read form ys others)

-- the first element of a row is the first one that is read there
pub record IsFirstOfRow (form : ExtensionsForm) (left : List Element) (padding : ℕ) (element : Element) (after : List ℕ) : Type 0 where
  pub more : List Element
  pub no_padding : padding ≡ 0
  pub left_is : left ≡ element ∷ more
  pub after_is : after ≡ elements_bytes form more

some_bytes : (form : ExtensionsForm) (element : Element) → 1 ≤ length (element_bytes form element)
some_bytes OneByte element = omega arith
some_bytes TwoByte element = omega arith

no_zero : (form : ExtensionsForm) (first : Element) (after rest : List ℕ) → IsWritable form first → element_bytes form first ++ after ≡ 0 ∷ rest → ⊥
no_zero OneByte first after rest is same = let header : first.0 * 16 + (length first.1 - 1) ≡ 0 = cc in let above = is.0 in omega arith
no_zero TwoByte first after rest is same = let header : first.0 ≡ 0 = cc in let above = is.0 in omega arith

pub first_of_row : (form : ExtensionsForm) (left : List Element) (padding : ℕ) (element : Element) (after : List ℕ) → AllByRecursion (IsWritable form) left → IsElement form element
    → elements_bytes form left ≡ replicate padding 0 ++ (element_bytes form element ++ after) → IsFirstOfRow form left padding element after
first_of_row form [] padding element after all is same =
    absurd (omega (arith, some_bytes form element, ap length same, length-append (replicate padding 0) (element_bytes form element ++ after), length-append (element_bytes form element) after))
first_of_row form (first ∷ more) (suc padding) element after all is same =
    absurd (no_zero form first (elements_bytes form more) (replicate padding 0 ++ (element_bytes form element ++ after)) all.0 same)
first_of_row form (first ∷ more) zero element after all is same =
    let lists : first ∷ elements_left form (elements_bytes form more) ≡ element ∷ elements_left form after =
    sym (elements_left-element form first (elements_bytes form more) all.0.1) ∙ (ap (elements_left form) same ∙ elements_left-element form element after is) in
    let one : first ≡ element = cc in
    let bytes : element_bytes form element ++ after ≡ element_bytes form element ++ elements_bytes form more =
    sym same ∙ ap (λ (e : Element). element_bytes form e ++ elements_bytes form more) one in
    record {
      more = more;
      no_padding = refl;
      left_is = ap (λ (e : Element). e ∷ more) one;
      after_is = append_cancel_left (element_bytes form element) after (elements_bytes form more) bytes;
    }

-- what is written doesn't reach what is still to be read
written_before : (form new_form : ExtensionsForm) (id : ℕ) (bytes : List ℕ) (more : List Element) (end at : ℕ) → end ≤ at
    → end + (length (element_header new_form id (length bytes)) + length bytes + length (elements_bytes new_form more))
    ≤ at + (length (element_header form id (length bytes)) + length bytes + length (elements_bytes form more))
    → end + length (element_header new_form id (length bytes)) ≤ at + length (element_header form id (length bytes))
written_before OneByte OneByte id bytes more end at behind fits = omega (arith, behind)
written_before TwoByte TwoByte id bytes more end at behind fits = omega (arith, behind)
written_before TwoByte OneByte id bytes more end at behind fits = omega (arith, behind)
written_before OneByte TwoByte id bytes more end at behind fits = omega (arith, fits, length-two more)

carried_in : (form : ExtensionsForm) (id : ℕ) {n : ℕ} (bytes : List ℕ) → n ≡ length bytes → IsWritable form (id, bytes) → form ≡ OneByte → (id ≤ 14) × (1 ≤ n) × (n ≤ 16)
carried_in OneByte id bytes count is same = (omega arith, omega arith, omega arith)
carried_in TwoByte id bytes count is same = cc same

pub ChangesRowTo-start : {form new_form : ExtensionsForm} {room : List ℕ} {len : ℕ} → IsRowFor form new_form room len → ChangesRowTo form new_form room room len (length room - len) 0
ChangesRowTo-start {room} {len} is = record {
  passed = [];
  left = is.elements;
  are_passed = tt;
  are_left = is.are_writable;
  are_carried = is.are_carried;
  row_was = is.row_is;
  left_is = is.row_is;
  row_is = refl;
  end_is = refl;
  at_is = let w = is.within in omega (arith, ap length is.row_is, length-drop (length room - len) room);
  behind = omega arith;
  fits = let f = is.fits in omega arith;
}

module _ (form new_form : ExtensionsForm) (old room : List ℕ) (len at end : ℕ) (place : Place) (was : ChangesRowTo form new_form old room len at end) (next : IsNextPlace form room at place) where
  abbrev header : ExtensionsForm → List ℕ
  header f = element_header f place.id (length next.bytes)

  first : IsFirstOfRow form was.left next.padding (place.id, next.bytes) next.after
  first = first_of_row form was.left next.padding (place.id, next.bytes) next.after was.are_left next.is_element (sym was.left_is ∙ next.left_is)

  left_len : (f : ExtensionsForm) → length (elements_bytes f was.left) ≡ length (header f) + length next.bytes + length (elements_bytes f first.more)
  left_len f =
      omega (
        arith,
        ap (λ es. length (elements_bytes f es)) first.left_is,
        length-append (element_bytes f (place.id, next.bytes)) (elements_bytes f first.more),
        length-element f place.id next.bytes,
      )

  count : place.end - place.data_start ≡ length next.bytes
  count = omega (arith, next.end_is)

  data_at : place.data_start ≡ at + length (header form)
  data_at = omega (arith, next.start_is, next.data_is, first.no_padding)

  pub ahead : end + length (header new_form) ≤ place.data_start
  ahead =
      let b = was.behind in
      omega (arith, data_at, written_before form new_form place.id next.bytes first.more end at b (omega (arith, was.fits, was.at_is, left_len form, left_len new_form)))

  pub in_room : place.end ≤ length room
  in_room = omega (arith, was.at_is, left_len form, next.end_is, data_at)

  pub carried : new_form ≡ OneByte → (place.id ≤ 14) × (1 ≤ place.end - place.data_start) × (place.end - place.data_start ≤ 16)
  carried = carried_in new_form place.id next.bytes count (subst (AllByRecursion (IsWritable new_form)) first.left_is was.are_carried).0

  split : drop at room ≡ header form ++ (next.bytes ++ next.after)
  split =
      next.left_is ∙ ap (λ (n : ℕ). replicate n 0 ++ (element_bytes form (place.id, next.bytes) ++ next.after)) first.no_padding
      ∙ ap (λ b. b ++ next.after) (element_bytes-split form place.id next.bytes) ∙ append_assoc (header form) next.bytes next.after

  pub ChangesRowTo-next : (copied new : List ℕ) (data_to : ℕ) → data_to ≡ end + length (header new_form) → copied ≡ paste room data_to (drop place.data_start room) (place.end - place.data_start)
      → new ≡ overwritten copied end (element_header new_form place.id (place.end - place.data_start))
      → ChangesRowTo form new_form old new len place.end (data_to + (place.end - place.data_start))
  ChangesRowTo-next copied new data_to data_to_is copied_is new_is =
      let n : ℕ = place.end - place.data_start in
      let stop : place.end ≡ place.data_start + n = omega (arith, next.end_is) in
      let far = ahead in
      let within = in_room in
      let is = moved room copied new at end place.data_start n (header form) (header new_form) next.bytes next.after split data_at count
      (omega (arith, far)) (omega (arith, within, stop))
      (copied_is ∙ ap (λ (k : ℕ). paste room k (drop place.data_start room) n) data_to_is)
      (new_is ∙ ap (λ (k : ℕ). overwritten copied end (element_header new_form place.id k)) count) in
      let element : List ℕ = element_bytes new_form (place.id, next.bytes) in
      let one : List Element = (place.id, next.bytes) ∷ [] in
      let rest = subst (AllByRecursion (IsWritable form)) first.left_is was.are_left in
      let row : elements_bytes new_form (was.passed ++ one) ≡ elements_bytes new_form was.passed ++ element =
      elements_bytes-append new_form was.passed one ∙ ap (λ b. elements_bytes new_form was.passed ++ b) (append-nil element) in
      let to : data_to + n ≡ end + (length (header new_form) + n) = omega (arith, data_to_is) in
      record {
        passed = was.passed ++ one;
        left = first.more;
        are_passed = AllByRecursion-append (IsWritable form) was.passed one was.are_passed (rest.0, tt);
        are_left = rest.1;
        are_carried = (subst (AllByRecursion (IsWritable new_form)) first.left_is was.are_carried).1;
        row_was = was.row_was ∙ ap (elements_bytes form) (ap (λ es. was.passed ++ es) first.left_is ∙ sym (append_assoc was.passed one first.more));
        left_is = ap (λ (k : ℕ). drop k new) stop ∙ (is.after_is ∙ first.after_is);
        row_is = ap (λ (k : ℕ). take k new) to ∙ is.front_is ∙ ap (λ b. take end room ++ b) (sym (element_bytes-split new_form place.id next.bytes))
            ∙ ap (λ b. b ++ element) was.row_is ∙ sym row;
        end_is = omega (arith, to, was.end_is, ap length row, length-append (elements_bytes new_form was.passed) element, length-element new_form place.id next.bytes, count);
        at_is = omega (arith, was.at_is, left_len form, is.as_long, next.end_is, data_at);
        behind = omega (arith, far, data_to_is, stop);
        fits = omega (arith, was.fits, left_len new_form, is.as_long, count, to);
      }

-- where reading ends
pub ChangesRow-end : {form new_form : ExtensionsForm} {old room : List ℕ} {len at end : ℕ} → ChangesRowTo form new_form old room len at end → BeginsWithNoElement form (drop at room)
    → ChangesRow form new_form old room len end
ChangesRow-end {form} {room} {at} was none =
    let nothing : was.left ≡ [] =
    AreElements-same form (drop at room) was.left [] (subst (λ b. AreElements form b was.left) (sym was.left_is) (row-read form was.left (each_element form was.left was.are_left)))
    (AreElements-none none) in
    record {
      elements = was.passed;
      are_writable = was.are_passed;
      row_was = was.row_was ∙ ap (elements_bytes form) (ap (λ es. was.passed ++ es) nothing ∙ append-nil was.passed);
      row_is = was.row_is;
      end_is = was.end_is;
      within = let b = was.behind in let a = was.at_is in omega arith;
    }
