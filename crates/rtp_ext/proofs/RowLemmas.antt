-- Elements that stand in a row already, before the last one of an id and after it.
use Rattle.rtp_ext.proofs.Common.{◌≡◌, ℕ, ◌+◌, ◌-◌, ◌≤◌, ◌==◌, Bool, true, false, not, cond, List, [], ◌∷◌, ◌++◌, length, take, drop, Option, Some, None, append_assoc, length-append, length-drop, length-take-le, arith, refl, sym, ap, ◌∙◌, subst, slice_range, flat_map, filter_map, take_at, drop_at, take-append-le, drop-append-le, take-take, drop-take, take_all, drop_all, append-nil, filter-append, ExtensionsForm, Place, Survey, Element, AreElements, element_bytes, elements_bytes, piece_bytes, LiesLast, AreWhole, IsLastOrNone, IsSurvey, HasRows, goes, others, start_around, end_around}
use Rattle.rtp_ext.proofs.PlaceLemmas.{length-element, length-header-some, length-lies}
use Rattle.rtp_ext.proofs.PieceLemmas.{AreWhole-nil, AreWhole-append, AreWhole-element, AreElements-after}
use Rattle.rtp_ext.proofs.LastPlaceLemmas.{AreElements-same}
use Rattle.rtp_ext.proofs.GatheredLemmas.{elements_bytes-append, goes-this, others-gone}
use Rattle.rtp_ext.proofs.AroundLemmas.{AreElements-whole, read_front, read_whole, read_within}

-- ---- pieces that are as long as their elements of other ids

some_bytes : (form : ExtensionsForm) (element : Element) → 1 ≤ length (element_bytes form element)
some_bytes form element = let h = length-header-some form element.0 (length element.1) in omega (arith, length-element form element.0 element.1)

-- the elements of other ids of these pieces, but those of the id 0, in a row
row_of : ExtensionsForm → ℕ → List (Option Element) → List ℕ
row_of form id pieces = elements_bytes form (others id (filter_map (λ piece. piece) pieces))

row_within : (form : ExtensionsForm) (id : ℕ) (pieces : List (Option Element)) → length (row_of form id pieces) ≤ length (flat_map (piece_bytes form) pieces)
unfolding row_of
row_within form id [] = omega arith
row_within form id (None ∷ pieces) = let w = row_within form id pieces in omega arith
row_within form id (Some element ∷ pieces) = by_test (goes id element) (row_within form id pieces)
  where
    by_test : (b : Bool) → length (row_of form id pieces) ≤ length (flat_map (piece_bytes form) pieces)
        → length (elements_bytes form (cond (not b) (element ∷ others id (filter_map (λ piece. piece) pieces)) (others id (filter_map (λ piece. piece) pieces))))
        ≤ length (element_bytes form element ++ flat_map (piece_bytes form) pieces)
    by_test true rest = omega (arith, length-append (element_bytes form element) (flat_map (piece_bytes form) pieces))
    by_test false rest =
        omega (
          arith,
          length-append (element_bytes form element) (flat_map (piece_bytes form) pieces),
          length-append (element_bytes form element) (elements_bytes form (others id (filter_map (λ piece. piece) pieces))),
        )

row_is : (form : ExtensionsForm) (id : ℕ) (pieces : List (Option Element)) → length (flat_map (piece_bytes form) pieces) ≤ length (row_of form id pieces)
    → flat_map (piece_bytes form) pieces ≡ row_of form id pieces
unfolding row_of
row_is form id [] long = refl
row_is form id (None ∷ pieces) long = let w = row_within form id pieces in absurd (omega arith)
row_is form id (Some element ∷ pieces) long = by_test (goes id element) long (λ enough. row_is form id pieces enough) (row_within form id pieces)
  where
    by_test : (b : Bool) → length (element_bytes form element ++ flat_map (piece_bytes form) pieces)
        ≤ length (elements_bytes form (cond (not b) (element ∷ others id (filter_map (λ piece. piece) pieces)) (others id (filter_map (λ piece. piece) pieces))))
        → (length (flat_map (piece_bytes form) pieces) ≤ length (row_of form id pieces) → flat_map (piece_bytes form) pieces ≡ row_of form id pieces)
        → length (row_of form id pieces) ≤ length (flat_map (piece_bytes form) pieces)
        → element_bytes form element ++ flat_map (piece_bytes form) pieces
        ≡ elements_bytes form (cond (not b) (element ∷ others id (filter_map (λ piece. piece) pieces)) (others id (filter_map (λ piece. piece) pieces)))
    by_test true long rest within =
        let some = some_bytes form element in
        absurd (omega (arith, length-append (element_bytes form element) (flat_map (piece_bytes form) pieces)))
    by_test false long rest within =
        ap (λ b. element_bytes form element ++ b) (rest (omega (
          arith,
          length-append (element_bytes form element) (flat_map (piece_bytes form) pieces),
          length-append (element_bytes form element) (elements_bytes form (others id (filter_map (λ piece. piece) pieces))),
        )))

module _ {form : ExtensionsForm} (id : ℕ) {bytes : List ℕ} {elements : List Element} (whole : AreWhole form bytes elements) where
  whole_within : length (elements_bytes form (others id elements)) ≤ length bytes
  unfolding row_of
  whole_within =
      let w = row_within form id whole.pieces in
      omega (arith, ap length whole.bytes_are, ap (λ es. length (elements_bytes form (others id es))) whole.elements_are)

  whole_is : length bytes ≤ length (elements_bytes form (others id elements)) → bytes ≡ elements_bytes form (others id elements)
  unfolding row_of
  whole_is long =
      whole.bytes_are
      ∙ (row_is form id whole.pieces (omega (arith, ap length whole.bytes_are, ap (λ es. length (elements_bytes form (others id es))) whole.elements_are))
      ∙ ap (λ es. elements_bytes form (others id es)) (sym whole.elements_are))

-- ---- the bytes that were read

record AreRows (form : ExtensionsForm) (id : ℕ) (bytes : List ℕ) (start end : ℕ) : Type 0 where
  pub before : List Element
  pub after : List Element
  pub front_whole : AreWhole form (take start bytes) before
  pub rest_whole : AreWhole form (drop end bytes) after
  pub front_is : take start bytes ≡ elements_bytes form (others id before)
  pub rest_is : drop end bytes ≡ elements_bytes form (others id after)
  pub order : start ≤ end
  pub within : end ≤ length bytes

rows_of_none : {form : ExtensionsForm} (id : ℕ) {bytes : List ℕ} {elements : List Element} → AreWhole form bytes elements
    → length (elements_bytes form (others id elements)) ≡ length bytes → AreRows form id bytes (length bytes) (length bytes)
rows_of_none {form} id {bytes} {elements} whole row =
    let all : take (length bytes) bytes ≡ bytes = take_all (length bytes) bytes (omega arith) in
    let nothing : drop (length bytes) bytes ≡ [] = drop_all (length bytes) bytes (omega arith) in
    record {
      before = elements;
      after = [];
      front_whole = subst (λ b. AreWhole form b elements) (sym all) whole;
      rest_whole = subst (λ b. AreWhole form b []) (sym nothing) (AreWhole-nil form);
      front_is = all ∙ whole_is id whole (omega arith);
      rest_is = nothing;
      order = omega arith;
      within = omega arith;
    }

rows_of_last : {form : ExtensionsForm} {id : ℕ} {bytes : List ℕ} {elements : List Element} {place : Place} → AreWhole form bytes elements → place.id ≡ id
    → LiesLast form (AreWhole form) id bytes place → length (elements_bytes form (others id elements)) + (place.end - place.start) ≡ length bytes
    → AreRows form id bytes place.start place.end
rows_of_last {form} {id} {bytes} {elements} {place} whole id_is is row =
    let element : Element = (place.id, is.lies.bytes) in
    let here : List ℕ = element_bytes form (place.id, is.lies.bytes) in
    let split : bytes ≡ (is.lies.front ++ here) ++ is.lies.after = is.lies.body_is ∙ sym (append_assoc is.lies.front here is.lies.after) in
    let front : take place.start bytes ≡ is.lies.front = ap (take place.start) is.lies.body_is ∙ take_at is.lies.front (here ++ is.lies.after) place.start (sym is.lies.start_is) in
    let here_len = length-lies is.lies in
    let end : length (is.lies.front ++ here) ≡ place.end = omega (arith, is.lies.start_is, length-append is.lies.front here) in
    let rest : drop place.end bytes ≡ is.lies.after = ap (drop place.end) split ∙ drop_at (is.lies.front ++ here) is.lies.after place.end end in
    let parts : AreWhole form bytes ((is.before ++ (place.id, is.lies.bytes) ∷ []) ++ is.after) =
    subst (λ b. AreWhole form b ((is.before ++ (place.id, is.lies.bytes) ∷ []) ++ is.after)) (sym split)
    (AreWhole-append
    (AreWhole-append is.whole (AreWhole-element form (place.id, is.lies.bytes) is.lies.is_element)) is.left) in
    let same : elements ≡ (is.before ++ (place.id, is.lies.bytes) ∷ []) ++ is.after =
    AreElements-same form bytes elements ((is.before ++ (place.id, is.lies.bytes) ∷ []) ++ is.after)
    (AreElements-whole whole) (AreElements-whole parts) in
    let kept : others id elements ≡ others id is.before ++ others id is.after =
    ap (others id) same ∙ (filter-append (λ (e : Element). not (goes id e)) (is.before ++ (place.id, is.lies.bytes) ∷ []) is.after
    ∙ ap (λ es. es ++ others id is.after) (others-gone id is.before (place.id, is.lies.bytes) (goes-this id (place.id, is.lies.bytes) id_is))) in
    let long : length (elements_bytes form (others id elements)) ≡ length (elements_bytes form (others id is.before)) + length (elements_bytes form (others id is.after)) =
    ap (λ es. length (elements_bytes form es)) kept ∙ (ap length (elements_bytes-append form (others id is.before) (others id is.after))
    ∙ length-append (elements_bytes form (others id is.before)) (elements_bytes form (others id is.after))) in
    let total = length-append (is.lies.front ++ here) is.lies.after in
    let few_before = whole_within id is.whole in
    let few_after = whole_within id is.left in
    let start_is = is.lies.start_is in
    record {
      before = is.before;
      after = is.after;
      front_whole = subst (λ b. AreWhole form b is.before) (sym front) is.whole;
      rest_whole = subst (λ b. AreWhole form b is.after) (sym rest) is.left;
      front_is = front ∙ whole_is id is.whole (omega (arith, ap length split));
      rest_is = rest ∙ whole_is id is.left (omega (arith, ap length split));
      order = omega arith;
      within = omega (arith, ap length split);
    }

rows_read : {form : ExtensionsForm} (id : ℕ) {bytes : List ℕ} {elements : List Element} (last : Option Place) {start end : ℕ} → AreWhole form bytes elements
    → IsLastOrNone form id bytes elements last → start ≡ start_around id (length bytes) last → end ≡ end_around id (length bytes) last
    → length (elements_bytes form (others id elements)) + (end - start) ≡ length bytes → AreRows form id bytes start end
rows_read {form} id {bytes} None {end} whole is start_is end_is row =
    subst (λ (s : ℕ). AreRows form id bytes s end) (sym start_is) (subst (λ (e : ℕ). AreRows form id bytes (length bytes) e) (sym end_is)
    (rows_of_none id whole (omega arith)))
rows_read {form} id {bytes} (Some place) {start} {end} whole is start_is end_is row = by_test (id == 0) start_is end_is
  where
    by_test : (b : Bool) → start ≡ cond b (length bytes) place.start → end ≡ cond b (length bytes) place.end → AreRows form id bytes start end
    by_test true start_is end_is =
        subst (λ (s : ℕ). AreRows form id bytes s end) (sym start_is) (subst (λ (e : ℕ). AreRows form id bytes (length bytes) e) (sym end_is)
        (rows_of_none id whole (omega arith)))
    by_test false start_is end_is =
        subst (λ (s : ℕ). AreRows form id bytes s end) (sym start_is) (subst (λ (e : ℕ). AreRows form id bytes place.start e) (sym end_is)
        (rows_of_last whole is.0 is.1 (omega arith)))

-- ---- a body at the front of a slice

pub HasRows-already : {form : ExtensionsForm} {id : ℕ} (body : List ℕ) (body_len : ℕ) {survey : Survey} {start end : ℕ} → body_len ≤ length body
    → IsSurvey form (take body_len body) id survey → start ≡ start_around id survey.end survey.last → end ≡ end_around id survey.end survey.last
    → survey.others_len + (end - start) ≡ survey.end
    → HasRows form id body body start end body_len start (survey.end - end)
HasRows-already {form} {id} body body_len {survey} {start} {end} within is start_is end_is row =
    let read : List ℕ = is.read.passed in
    let long : survey.end ≡ length is.read.passed = is.read.at_is in
    let rows = rows_read id survey.last (read_whole is)
    (subst (λ es. IsLastOrNone form id is.read.passed es survey.last) is.all_read is.read.last_is)
    (subst (λ (n : ℕ). start ≡ start_around id n survey.last) long start_is) (subst (λ (n : ℕ). end ≡ end_around id n survey.last) long end_is) (omega (arith, is.others_are)) in
    let order = rows.order in
    let end_within = rows.within in
    let read_few = read_within is in
    let few : survey.end ≤ body_len = omega (arith, length-take-le body_len body within) in
    let front : take start body ≡ take start is.read.passed =
    sym (take-take start body_len body (omega arith)) ∙ (ap (take start) is.read.body_is ∙ take-append-le start is.read.passed is.read.left (omega arith)) in
    let k : body_len ≡ end + (body_len - end) = omega arith in
    let rest : slice_range body end body_len ≡ drop end is.read.passed ++ is.read.left =
    sym (ap (λ (n : ℕ). drop end (take n body)) k ∙ drop-take end (body_len - end) body)
    ∙ (ap (drop end) is.read.body_is ∙ drop-append-le end is.read.passed is.read.left end_within) in
    let all : take survey.end body ≡ is.read.passed = sym (take-take survey.end body_len body few) ∙ read_front is in
    let m : survey.end ≡ end + (survey.end - end) = omega arith in
    let part : slice_range body end (end + (survey.end - end)) ≡ drop end is.read.passed =
    ap (λ (n : ℕ). take n (drop end body)) (omega arith)
    ∙ (sym (drop-take end (survey.end - end) body) ∙ (ap (λ (n : ℕ). drop end (take n body)) (sym m) ∙ ap (drop end) all)) in
    record {
      before = rows.before;
      after = rows.after;
      are_before = subst (λ b. AreElements form b rows.before) (sym front) (AreElements-whole rows.front_whole);
      are_after = subst (λ b. AreElements form b rows.after) (sym rest)
          (subst (AreElements form (drop end is.read.passed ++ is.read.left)) (append-nil rows.after)
          (AreElements-after form (drop end is.read.passed) is.read.left rows.after [] rows.rest_whole is.none_left));
      rows = record {
        front_is = front ∙ rows.front_is;
        after_is = part ∙ rows.rest_is;
        front_len = omega (arith, ap length rows.front_is, length-take-le start is.read.passed (omega arith));
        count_is = omega (arith, ap length rows.rest_is, ap length part, length-drop end is.read.passed);
        order = omega arith;
        within = omega arith;
      };
      length_is = refl;
    }
