-- A body that is rewritten: the elements that stay, in two rows, and what comes between them.
use Rattle.rtp_ext.proofs.Common.{◌≡◌, ℕ, ◌+◌, ◌-◌, ◌≤◌, List, [], ◌∷◌, ◌++◌, length, take, drop, Option, Some, None, IfSome, Bor, length-append, length-take-le, arith, refl, sym, ap, ◌∙◌, subst, inl, inr, ◌⊎◌, slice_range, AllByRecursion, take-take, drop-take, append-nil, ExtensionsForm, OneByte, TwoByte, Element, IsElement, element_bytes, elements_bytes, element_header, AreElements, IsWritable, Survey, IsSurvey, start_around, end_around, StandInRows, HasRows, HasRowsFor, without, others, put_among}
use Rattle.rtp_ext.specs.ElementsInARow.{elements_added}
use Rattle.rtp_ext.proofs.PlaceLemmas.{length-element, length-header-some}
use Rattle.rtp_ext.proofs.LastPlaceLemmas.{AreElements-same}
use Rattle.rtp_ext.proofs.GatheredLemmas.{elements_bytes-append, others-twice}
use Rattle.rtp_ext.proofs.AnewLemmas.{AreElements-each, writable_without, without-each, all-parts, length-both, length-among, among-each, among-stays, others-without}
use Rattle.rtp_ext.proofs.AroundLemmas.{IsSplit, IsSplit-surveyed}

-- ---- what comes

pub length-added : (form : ExtensionsForm) {comes : Option (ℕ × Bor (List ℕ))} (id : ℕ) (content : Bor (List ℕ)) {header : ℕ} → comes ≡ Some (id, content)
    → header ≡ length (element_header form id (length content.now)) → header + length content.now ≡ length (elements_bytes form (elements_added comes))
length-added form {comes} id content is header-is =
    let one : elements_bytes form (elements_added comes) ≡ element_bytes form (id, content.now) =
    ap (λ (a : Option (ℕ × Bor (List ℕ))). elements_bytes form (elements_added a)) is ∙ append-nil (element_bytes form (id, content.now)) in
    omega (arith, ap length one, length-element form id content.now, header-is)

header-few : (form : ExtensionsForm) (id : ℕ) (content : List ℕ) → IsWritable form (id, content) → length (element_header form id (length content)) + length content ≤ 257
header-few OneByte id content is = let few = is.1 in omega arith
header-few TwoByte id content is = let few = is.1 in omega arith

pub few-added : (form : ExtensionsForm) {comes : Option (ℕ × Bor (List ℕ))} (id : ℕ) (content : Bor (List ℕ)) {header : ℕ} → comes ≡ Some (id, content)
    → header ≡ length (element_header form id (length content.now)) → IfSome comes (λ element. IsWritable form (element.0, element.1.now)) → header + length content.now ≤ 257
few-added form id content is header-is writable =
    omega (arith, header-is, header-few form id content.now (subst (λ (a : Option (ℕ × Bor (List ℕ))). IfSome a (λ element. IsWritable form (element.0, element.1.now))) is writable))

pub added-each : (form : ExtensionsForm) (comes : Option (ℕ × Bor (List ℕ))) → IfSome comes (λ element. IsWritable form (element.0, element.1.now)) → AllByRecursion (IsWritable form) (elements_added comes)
added-each form None writable = tt
added-each form (Some element) writable = (writable, tt)

-- ---- the elements that stay, and what comes

pub length-rewritten : (form : ExtensionsForm) (id : ℕ) (comes elements : List Element)
    → length (elements_bytes form (put_among id comes (without 0 elements))) ≡ length (elements_bytes form (others id elements)) + length (elements_bytes form comes)
length-rewritten form id comes elements =
    length-among form id comes (without 0 elements) ∙ ap (λ es. length (elements_bytes form es) + length (elements_bytes form comes)) (others-without id elements)

pub rewritten-each : (P : Element → Type 0) (id : ℕ) (comes elements : List Element) → AllByRecursion P (others id elements) → AllByRecursion P comes
    → AllByRecursion P (put_among id comes (without 0 elements))
rewritten-each P id comes elements all is = among-each P id comes (without 0 elements) (subst (AllByRecursion P) (sym (others-without id elements)) all) is

pub rewritten-stays : (P : Element → Type 0) (id : ℕ) (comes elements : List Element) → AllByRecursion P (put_among id comes (without 0 elements)) → AllByRecursion P (others id elements)
rewritten-stays P id comes elements all = subst (AllByRecursion P) (others-without id elements) (among-stays P id comes (without 0 elements) all)

-- ---- elements whose form stays, or of which there are none

pub others-writable : {form : ExtensionsForm} (id : ℕ) {body : List ℕ} {elements : List Element} → AreElements form body elements → AllByRecursion (IsWritable form) (others id elements)
others-writable {form} id {body} {elements} are =
    subst (AllByRecursion (IsWritable form)) (sym (others-twice id elements))
    (writable_without form (without id elements) (without-each (IsElement form) id elements (AreElements-each form body elements are)))

no_bytes : (form : ExtensionsForm) (element : Element) (elements : List Element) → length (elements_bytes form (element ∷ elements)) ≡ 0 → ⊥
no_bytes form element elements none =
    absurd (omega (arith, length-append (element_bytes form element) (elements_bytes form elements), length-element form element.0 element.1, length-header-some form element.0 (length element.1)))

pub stays-bytes : (form new_form : ExtensionsForm) (elements : List Element) → (new_form ≡ form) ⊎ (length (elements_bytes form elements) ≡ 0) → elements_bytes new_form elements ≡ elements_bytes form elements
stays-bytes form new_form elements (inl same) = ap (λ (f : ExtensionsForm). elements_bytes f elements) same
stays-bytes form new_form [] (inr none) = refl
stays-bytes form new_form (element ∷ elements) (inr none) = absurd (no_bytes form element elements none)

pub stays-writable : (form new_form : ExtensionsForm) (elements : List Element) → (new_form ≡ form) ⊎ (length (elements_bytes form elements) ≡ 0)
    → AllByRecursion (IsWritable form) elements → AllByRecursion (IsWritable new_form) elements
stays-writable form new_form elements (inl same) all = subst (λ (f : ExtensionsForm). AllByRecursion (IsWritable f) elements) (sym same) all
stays-writable form new_form [] (inr none) all = tt
stays-writable form new_form (element ∷ elements) (inr none) all = absurd (no_bytes form element elements none)

stays-rows : {form : ExtensionsForm} (new_form : ExtensionsForm) {xs ys : List Element} {body : List ℕ} {front at count : ℕ} → (new_form ≡ form) ⊎ (length (elements_bytes form (xs ++ ys)) ≡ 0)
    → StandInRows form xs ys body front at count → StandInRows new_form xs ys body front at count
stays-rows new_form {xs} {ys} {body} {front} {at} {count} (inl same) rows = subst (λ (f : ExtensionsForm). StandInRows f xs ys body front at count) (sym same) rows
stays-rows {form} new_form {xs} {ys} (inr none) rows =
    let xs-are = stays-bytes form new_form xs (inr (omega (arith, none, length-both form xs ys))) in
    let ys-are = stays-bytes form new_form ys (inr (omega (arith, none, length-both form xs ys))) in
    record {
      front_is = rows.front_is ∙ sym xs-are;
      after_is = rows.after_is ∙ sym ys-are;
      front_len = rows.front_len ∙ ap length (sym xs-are);
      count_is = rows.count_is ∙ ap length (sym ys-are);
      order = rows.order;
      within = rows.within;
    }

-- ---- the rows

module _ (form new_form : ExtensionsForm) (body body1 : List ℕ) (body_len id : ℕ) (survey : Survey) (start end front count : ℕ) (within : body_len ≤ length body)
    (is : IsSurvey form (take body_len body) id survey) (start_is : start ≡ start_around id survey.end survey.last) (end_is : end ≡ end_around id survey.end survey.last)
    (g : HasRows form id body body1 start end body_len front count) where
  split : IsSplit form id (take body_len body) start end
  split = IsSplit-surveyed is start_is end_is

  start_within : start ≤ body_len
  start_within = let a = split.order in let b = split.within in omega (arith, length-take-le body_len body within)

  end_within : end ≤ body_len
  end_within = let b = split.within in omega (arith, length-take-le body_len body within)

  before_is : g.before ≡ split.before
  before_is =
      AreElements-same form (take start body) g.before split.before g.are_before
      (subst (λ b. AreElements form b split.before) (take-take start body_len body start_within) split.front_has)

  after_is : g.after ≡ split.after
  after_is =
      let k : body_len ≡ end + (body_len - end) = let e = end_within in omega arith in
      let part : slice_range body end body_len ≡ drop end (take body_len body) = sym (ap (λ (n : ℕ). drop end (take n body)) k ∙ drop-take end (body_len - end) body) in
      AreElements-same form (drop end (take body_len body)) g.after split.after (subst (λ b. AreElements form b g.after) part g.are_after) split.rest_has

  pub put_is : (elements : List Element) → AreElements form (take body_len body) elements → (comes : List Element)
      → put_among id comes (without 0 elements) ≡ others id g.before ++ (comes ++ others id g.after)
  put_is elements are comes =
      split.put_is elements are comes
      ∙ (ap (λ es. others id es ++ (comes ++ others id split.after)) (sym before_is) ∙ ap (λ es. others id g.before ++ (comes ++ others id es)) (sym after_is))

  -- their form stays, or there are none
  pub rows-stay : (new_form ≡ form) ⊎ (survey.others_len ≡ 0) → StandInRows new_form (others id g.before) (others id g.after) body1 front end count
  rows-stay stays = stays-rows new_form (either stays) g.rows
    where
      either : (new_form ≡ form) ⊎ (survey.others_len ≡ 0) → (new_form ≡ form) ⊎ (length (elements_bytes form (others id g.before ++ others id g.after)) ≡ 0)
      either (inl same) = inl same
      either (inr none) =
          inr (omega (arith, none, is.others_are, length-rewritten form id [] is.elements, ap (λ es. length (elements_bytes form es)) (put_is is.elements is.are_elements [])))

  -- there is room for them in another form, which can carry each
  module _ (comes : List Element) (can : (elements : List Element) → AreElements form (take body_len body) elements → AllByRecursion (IsWritable new_form) (put_among id comes (without 0 elements)))
      (room : (elements : List Element) → AreElements form (take body_len body) elements → length (elements_bytes new_form (put_among id comes (without 0 elements))) ≤ length body) where
    pub carried : AllByRecursion (IsWritable new_form) (others id g.before) × AllByRecursion (IsWritable new_form) (others id g.after)
    carried =
        let all = all-parts (IsWritable new_form) (others id g.before) (comes ++ others id g.after)
        (subst (AllByRecursion (IsWritable new_form)) (put_is is.elements is.are_elements comes) (can is.elements is.are_elements)) in
        (all.0, (all-parts (IsWritable new_form) comes (others id g.after) all.1).1)

    pub fit : length (elements_bytes new_form (others id g.before ++ others id g.after)) ≤ length body1
    fit =
        omega (
          arith,
          room is.elements is.are_elements,
          g.length_is,
          ap (λ es. length (elements_bytes new_form es)) (put_is is.elements is.are_elements comes),
          length-both new_form (others id g.before) (comes ++ others id g.after),
          length-both new_form comes (others id g.after),
          length-both new_form (others id g.before) (others id g.after),
        )

    abbrev pub rows_for : (other : ExtensionsForm) → new_form ≡ other → HasRowsFor form other body1 front end count
    rows_for other same = record {
      before = others id g.before;
      after = others id g.after;
      are_before = others-writable id g.are_before;
      are_after = others-writable id g.are_after;
      before_carried = subst (λ (f : ExtensionsForm). AllByRecursion (IsWritable f) (others id g.before)) same carried.0;
      after_carried = subst (λ (f : ExtensionsForm). AllByRecursion (IsWritable f) (others id g.after)) same carried.1;
      rows = g.rows;
      fits = subst (λ (f : ExtensionsForm). length (elements_bytes f (others id g.before ++ others id g.after)) ≤ length body1) same fit;
    }

-- what comes stands between them
module _ {form : ExtensionsForm} {xs : List Element} (comes : List Element) {ys all : List Element} {body : List ℕ} {front at count : ℕ} (is : all ≡ xs ++ (comes ++ ys)) (rows : StandInRows form xs ys body front at count) where
  pub len-between : front + length (elements_bytes form comes) + count ≡ length (elements_bytes form all)
  len-between =
      omega (arith, rows.front_len, rows.count_is, ap (λ es. length (elements_bytes form es)) is, length-both form xs (comes ++ ys), length-both form comes ys)

  pub row-between : take front body ++ (elements_bytes form comes ++ slice_range body at (at + count)) ≡ elements_bytes form all
  row-between =
      ap (λ b. b ++ (elements_bytes form comes ++ slice_range body at (at + count))) rows.front_is
      ∙ (ap (λ b. elements_bytes form xs ++ (elements_bytes form comes ++ b)) rows.after_is
      ∙ (ap (λ b. elements_bytes form xs ++ b) (sym (elements_bytes-append form comes ys))
      ∙ (sym (elements_bytes-append form xs (comes ++ ys)) ∙ ap (elements_bytes form) (sym is))))
