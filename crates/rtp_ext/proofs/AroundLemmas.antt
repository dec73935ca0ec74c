-- The elements before the last one of an id, and after it, each in a row.
use Rattle.rtp_ext.proofs.Common.{◌≡◌, ◌≢◌, ℕ, ◌+◌, ◌-◌, ◌≤◌, ◌==◌, Bool, true, false, cond, eqb-true, eq-eqb, false≢true, All-from_recursion, List, [], ◌∷◌, ◌++◌, length, take, drop, Option, Some, None, IfSome, IfNone, append_assoc, length-append, length-drop, length-take-le, arith, refl, sym, ap, ◌∙◌, subst, slice_range, take_at, drop_at, take-append-le, take-take, append-nil, put_mid, ExtensionsForm, Place, Survey, Element, AreElements, element_bytes, ended, HasNone, LiesLast, AreWhole, IsSurvey, IsGathered, HasRows, others, without, put_among, start_around, end_around}
use Rattle.std.proofs.lemmas.Slice.{drop-append-drop, take-put_mid_below, between-put_mid}
use Rattle.rtp_ext.proofs.PlaceLemmas.{length-lies}
use Rattle.rtp_ext.proofs.PieceLemmas.{AreElements-after, AreWhole-element, AreWhole-append}
use Rattle.rtp_ext.proofs.LastPlaceLemmas.{AreElements-same}
use Rattle.rtp_ext.proofs.PutLemmas.{put_among-last, put_among-none, without-none}
use Rattle.rtp_ext.proofs.AnewLemmas.{others-without, without-around, without-still_none, no_zero_left}

pub HasRows-gathered : {form : ExtensionsForm} {id : ℕ} (body : List ℕ) {g1 g2 : List ℕ} (start end body_len : ℕ) {front count : ℕ} → start ≤ end → end ≤ body_len → body_len ≤ length body
    → IsGathered form id (take start body) g1 front → IsGathered form id (slice_range (g1 ++ drop start body) end body_len) g2 count
    → HasRows form id body (put_mid end (body_len - end) (g1 ++ drop start body) g2) start end body_len front count
HasRows-gathered {form} body {g1} {g2} start end body_len {front} {count} order after within first second =
    let body1 : List ℕ = g1 ++ drop start body in
    let new : List ℕ = put_mid end (body_len - end) body1 g2 in
    let long1 : length g1 ≡ start = first.length_is ∙ length-take-le start body (omega arith) in
    let all1 : length body1 ≡ length body = omega (arith, length-append g1 (drop start body), length-drop start body) in
    let same : slice_range body1 end body_len ≡ slice_range body end body_len = ap (take (body_len - end)) (drop-append-drop start body g1 end order long1) in
    let long2 : length g2 ≡ body_len - end = second.length_is ∙ length-take-le (body_len - end) (drop end body1) (omega (arith, length-drop end body1)) in
    let few1 : front ≤ start = let w = first.within in omega (arith, length-take-le start body (omega arith)) in
    let few2 : count ≤ body_len - end = let w = second.within in omega (arith, length-take-le (body_len - end) (drop end body1) (omega (arith, length-drop end body1))) in
    let k : end + count - end ≡ count = omega arith in
    let long_new : length new ≡ length body =
    omega (
      arith,
      length-append (take end body1) (g2 ++ drop (body_len - end) (drop end body1)),
      length-append g2 (drop (body_len - end) (drop end body1)),
      length-take-le end body1 (omega arith),
      length-drop (body_len - end) (drop end body1),
      length-drop end body1,
    ) in
    record {
      before = first.elements;
      after = second.elements;
      are_before = first.are_elements;
      are_after = subst (λ b. AreElements form b second.elements) same second.are_elements;
      rows = record {
        front_is = take-put_mid_below end (body_len - end) body1 g2 front (omega arith) (omega arith)
            ∙ (take-append-le front g1 (drop start body) (omega arith) ∙ first.row_is);
        after_is = ap (λ (n : ℕ). take n (drop end new)) k
            ∙ (sym (take-take count (body_len - end) (drop end new) few2)
            ∙ (ap (take count) (between-put_mid end (body_len - end) body1 g2 body_len (omega arith) long2) ∙ second.row_is));
        front_len = first.len_is;
        count_is = second.len_is;
        order = omega arith;
        within = omega (arith, long_new);
      };
      length_is = long_new;
    }

-- the elements of a body before these offsets and after them, and what is put among them in place of what is between them
pub record IsSplit (form : ExtensionsForm) (id : ℕ) (body : List ℕ) (start end : ℕ) : Type 0 where
  pub before : List Element
  pub after : List Element
  pub front_has : AreElements form (take start body) before
  pub rest_has : AreElements form (drop end body) after
  pub order : start ≤ end
  pub within : end ≤ length body
  pub put_is : (elements : List Element) → AreElements form body elements → (comes : List Element) → put_among id comes (without 0 elements) ≡ others id before ++ (comes ++ others id after)

AreElements-nothing : (form : ExtensionsForm) → AreElements form [] []
AreElements-nothing form = record { pieces = []; tail = []; are_pieces = tt; is_tail = ended refl; body_is = refl; elements_are = refl }

pub AreElements-whole : {form : ExtensionsForm} {bytes : List ℕ} {elements : List Element} → AreWhole form bytes elements → AreElements form bytes elements
AreElements-whole {form} {bytes} {elements} whole =
    subst (λ b. AreElements form b elements) (append-nil bytes)
    (subst (AreElements form (bytes ++ [])) (append-nil elements) (AreElements-after form bytes [] elements [] whole (AreElements-nothing form)))

-- in place of the last one of the id
put_around : (id : ℕ) (before after comes : List Element) (was : List ℕ) → 1 ≤ id → HasNone after id
    → put_among id comes (without 0 (before ++ (id, was) ∷ after)) ≡ others id before ++ (comes ++ others id after)
put_around id before after comes was above none =
    ap (put_among id comes) (without-around id before after was above)
    ∙ (put_among-last id was comes (without 0 before) (without 0 after) (without-still_none id after none)
    ∙ (ap (λ es. es ++ (comes ++ without 0 after)) (others-without id before)
    ∙ ap (λ es. others id before ++ (comes ++ es)) (sym (without-none id (without 0 after) (without-still_none id after none)) ∙ others-without id after)))

-- behind all, where none of the id is left
put_behind : (id : ℕ) (elements comes : List Element) → HasNone (without 0 elements) id → put_among id comes (without 0 elements) ≡ others id elements ++ (comes ++ [])
put_behind id elements comes none =
    put_among-none id comes (without 0 elements) none
    ∙ (ap (λ es. es ++ comes) (sym (without-none id (without 0 elements) none) ∙ others-without id elements)
    ∙ ap (λ es. others id elements ++ es) (sym (append-nil comes)))

split_at : {form : ExtensionsForm} {body : List ℕ} {id : ℕ} {place : Place} → LiesLast form (AreElements form) id body place → place.id ≡ id → 1 ≤ id
    → IsSplit form id body place.start place.end
split_at {form} {body} {id} {place} is id_is above =
    let here : List ℕ = element_bytes form (place.id, is.lies.bytes) in
    let front : take place.start body ≡ is.lies.front = ap (take place.start) is.lies.body_is ∙ take_at is.lies.front (here ++ is.lies.after) place.start (sym is.lies.start_is) in
    let long = length-lies is.lies in
    let whole : body ≡ (is.lies.front ++ here) ++ is.lies.after = is.lies.body_is ∙ sym (append_assoc is.lies.front here is.lies.after) in
    let end : length (is.lies.front ++ here) ≡ place.end = let s = is.lies.start_is in omega (arith, length-append is.lies.front here) in
    let rest : drop place.end body ≡ is.lies.after = ap (drop place.end) whole ∙ drop_at (is.lies.front ++ here) is.lies.after place.end end in
    let all : AreElements form body ((is.before ++ (place.id, is.lies.bytes) ∷ []) ++ is.after) =
    subst (λ b. AreElements form b ((is.before ++ (place.id, is.lies.bytes) ∷ []) ++ is.after)) (sym whole)
    (AreElements-after form (is.lies.front ++ here) is.lies.after (is.before ++ (place.id, is.lies.bytes) ∷ []) is.after
    (AreWhole-append is.whole (AreWhole-element form (place.id, is.lies.bytes) is.lies.is_element)) is.left) in
    record {
      before = is.before;
      after = is.after;
      front_has = subst (λ b. AreElements form b is.before) (sym front) (AreElements-whole is.whole);
      rest_has = subst (λ b. AreElements form b is.after) (sym rest) is.left;
      order = let s = is.lies.start_is in omega arith;
      within = omega (arith, ap length whole, length-append (is.lies.front ++ here) is.lies.after);
      put_is = λ elements are comes.
          ap (λ es. put_among id comes (without 0 es))
          (AreElements-same form body elements ((is.before ++ (place.id, is.lies.bytes) ∷ []) ++ is.after) are all
          ∙ (append_assoc is.before ((place.id, is.lies.bytes) ∷ []) is.after ∙ ap (λ (i : ℕ). is.before ++ (i, is.lies.bytes) ∷ is.after) id_is))
          ∙ put_around id is.before is.after comes is.lies.bytes above is.last;
    }

-- where none of the id is left, by where reading ends
split_none : {form : ExtensionsForm} {body : List ℕ} (id end : ℕ) {elements : List Element} → AreElements form body elements → AreElements form (take end body) elements
    → AreElements form (drop end body) [] → end ≤ length body → HasNone (without 0 elements) id → IsSplit form id body end end
split_none {form} {body} id end {elements} are front rest within none = record {
  before = elements;
  after = [];
  front_has = front;
  rest_has = rest;
  order = omega arith;
  within = within;
  put_is = λ others_read are_others comes.
      ap (λ es. put_among id comes (without 0 es)) (AreElements-same form body others_read elements are_others are) ∙ put_behind id elements comes none;
}

-- up to where reading ends, and from there on
module _ {form : ExtensionsForm} {body : List ℕ} {id : ℕ} {survey : Survey} (is : IsSurvey form body id survey) where
  pub read_front : take survey.end body ≡ is.read.passed
  read_front = ap (take survey.end) is.read.body_is ∙ take_at is.read.passed is.read.left survey.end (sym is.read.at_is)

  pub read_rest : drop survey.end body ≡ is.read.left
  read_rest = ap (drop survey.end) is.read.body_is ∙ drop_at is.read.passed is.read.left survey.end (sym is.read.at_is)

  pub read_whole : AreWhole form is.read.passed is.elements
  read_whole = subst (AreWhole form is.read.passed) is.all_read is.read.are_whole

  pub read_within : survey.end ≤ length body
  read_within = omega (arith, is.read.at_is, ap length is.read.body_is, length-append is.read.passed is.read.left)

  -- the bytes up to there have the elements of the body
  pub read_elements : (elements : List Element) → AreElements form body elements → AreElements form (take survey.end body) elements
  read_elements elements are =
      subst (λ b. AreElements form b elements) (sym read_front)
      (AreElements-whole (subst (AreWhole form is.read.passed) (AreElements-same form body is.elements elements is.are_elements are) read_whole))

  split_read : HasNone (without 0 is.elements) id → IsSplit form id body survey.end survey.end
  split_read none =
      split_none id survey.end is.are_elements (read_elements is.elements is.are_elements)
      (subst (λ b. AreElements form b []) (sym read_rest) is.none_left) read_within none

-- by a survey, around what goes last
pub IsSplit-surveyed : {form : ExtensionsForm} {body : List ℕ} {id : ℕ} {survey : Survey} {start end : ℕ} → IsSurvey form body id survey
    → start ≡ start_around id survey.end survey.last → end ≡ end_around id survey.end survey.last → IsSplit form id body start end
IsSplit-surveyed {form} {body} {id} {survey} {start} {end} is start_is end_is = by_last survey.last is.last_is is.none_is start_is end_is
  where
    by_last : (last : Option Place) → IfSome last (λ place. (place.id ≡ id) × LiesLast form (AreElements form) id body place) → IfNone last (HasNone is.elements id)
        → start ≡ start_around id survey.end last → end ≡ end_around id survey.end last → IsSplit form id body start end
    by_last None known has_none start_is end_is =
        subst (λ (s : ℕ). IsSplit form id body s end) (sym start_is) (subst (λ (e : ℕ). IsSplit form id body survey.end e) (sym end_is)
        (split_read is (without-still_none id is.elements has_none)))
    by_last (Some place) known has_none start_is end_is = by_test (id == 0) refl start_is end_is
      where
        by_test : (b : Bool) → (id == 0) ≡ b → start ≡ cond b survey.end place.start → end ≡ cond b survey.end place.end → IsSplit form id body start end
        by_test true zero_id start_is end_is =
            let none : HasNone (without 0 is.elements) id =
            subst (λ (i : ℕ). HasNone (without 0 is.elements) i) (sym (eqb-true id 0 zero_id)) (All-from_recursion (λ (e : Element). e.0 ≢ 0) (without 0 is.elements) (no_zero_left is.elements)) in
            subst (λ (s : ℕ). IsSplit form id body s end) (sym start_is) (subst (λ (e : ℕ). IsSplit form id body survey.end e) (sym end_is) (split_read is none))
        by_test false other start_is end_is =
            let above : id ≢ 0 = λ same. false≢true (sym other ∙ eq-eqb id 0 same) in
            subst (λ (s : ℕ). IsSplit form id body s end) (sym start_is) (subst (λ (e : ℕ). IsSplit form id body place.start e) (sym end_is)
            (split_at known.1 known.0 (omega arith)))
