-- An element in place of the last of its id.
use Rattle.rtp_ext.proofs.Common.{◌≡◌, ◌≢◌, ℕ, ◌+◌, ◌-◌, ◌≤◌, Bool, true, false, not, ◌||◌, cond, List, [], ◌∷◌, ◌++◌, length, Option, Some, None, IfSome, IfNone, get_or, length-append, arith, refl, sym, ap, ◌∙◌, subst, filter, list_any, eq-eqb, ne_eqb, false≢true, filter-append, All-nil, All-cons, All-head, All-tail, overwritten, ExtensionsForm, Place, Survey, Element, AreElements, HasNone, SetsLast, IsLastPlace, LiesLast, IsSurvey, has_id, without, goes, put_among, put_element, IsSole}
use Rattle.std.proofs.lemmas.List.Folds.{list_any_none}
use Rattle.rtp_ext.proofs.GatheredLemmas.{or_true, goes-this, goes-zero, stays-other}
use Rattle.rtp_ext.proofs.LastPlaceLemmas.{AreElements-same, HasLast-place, HasLast-only, SetsLast-at, IsLastPlace-lies}

-- ---- elements of an id, and without it

pub filter-none : (id : ℕ) (elements : List Element) → HasNone elements id → HasNone elements 0 → filter (goes id) elements ≡ []
filter-none id [] none no_zero = refl
filter-none id (element ∷ elements) none no_zero =
    ap (λ (b : Bool). cond b (element ∷ filter (goes id) elements) (filter (goes id) elements))
    (stays-other id element (All-head (λ (e : Element). e.0 ≢ id) element elements none) (All-head (λ (e : Element). e.0 ≢ 0) element elements no_zero))
    ∙ filter-none id elements (All-tail (λ (e : Element). e.0 ≢ id) element elements none) (All-tail (λ (e : Element). e.0 ≢ 0) element elements no_zero)

pub without-none : (id : ℕ) (elements : List Element) → HasNone elements id → without id elements ≡ elements
without-none id [] none = refl
without-none id (element ∷ elements) none =
    ap (λ (b : Bool). cond (not b) (element ∷ without id elements) (without id elements))
    (ne_eqb element.0 id (All-head (λ (e : Element). e.0 ≢ id) element elements none))
    ∙ ap (λ es. element ∷ es) (without-none id elements (All-tail (λ (e : Element). e.0 ≢ id) element elements none))

-- where none was counted, none has an id that goes
pub none-counted : (id k : ℕ) (elements : List Element) → ((element : Element) → element.0 ≡ k → goes id element ≡ true) → length (filter (goes id) elements) ≡ 0 → HasNone elements k
none-counted id k [] gone none = All-nil (λ (e : Element). e.0 ≢ k)
none-counted id k (element ∷ elements) gone none = by_test (λ rest. none-counted id k elements gone rest) (goes id element) refl
  where
    by_test : (length (filter (goes id) elements) ≡ 0 → HasNone elements k) → (same : Bool) → goes id element ≡ same → HasNone (element ∷ elements) k
    by_test others true is =
        let some : length (cond true (element ∷ filter (goes id) elements) (filter (goes id) elements)) ≡ 0 =
        ap (λ (b : Bool). length (cond b (element ∷ filter (goes id) elements) (filter (goes id) elements))) (sym is) ∙ none in
        absurd (omega arith)
    by_test others false is =
        let rest : length (filter (goes id) elements) ≡ 0 =
        ap (λ (b : Bool). length (cond b (element ∷ filter (goes id) elements) (filter (goes id) elements))) (sym is) ∙ none in
        All-cons (λ (e : Element). e.0 ≢ k) element elements (λ same. false≢true (sym is ∙ gone element same)) (others rest)

count-around : (id : ℕ) (before after : List Element) (bytes : List ℕ)
    → length (filter (goes id) (before ++ (id, bytes) ∷ after)) ≡ length (filter (goes id) before) + (length (filter (goes id) after) + 1)
count-around id before after bytes =
    let here : filter (goes id) ((id, bytes) ∷ after) ≡ (id, bytes) ∷ filter (goes id) after =
    ap (λ (b : Bool). cond b ((id, bytes) ∷ filter (goes id) after) (filter (goes id) after)) (goes-this id (id, bytes) refl) in
    omega (
      arith,
      ap length (filter-append (goes id) before ((id, bytes) ∷ after)),
      length-append (filter (goes id) before) (filter (goes id) ((id, bytes) ∷ after)),
      ap length here,
    )

-- ---- the element in place of the last of its id

any-none : (id : ℕ) (elements : List Element) → HasNone elements id → list_any (has_id id) elements ≡ false
any-none id elements none = list_any_none (has_id id) elements (λ k d here. ne_eqb (get_or elements k d).0 id (none k d here))

any-around : (id : ℕ) (before after : List Element) (bytes : List ℕ) → list_any (has_id id) (before ++ (id, bytes) ∷ after) ≡ true
any-around id [] after bytes = ap (λ (b : Bool). b || list_any (has_id id) after) (eq-eqb id id refl)
any-around id (element ∷ before) after bytes = ap (λ (b : Bool). has_id id element || b) (any-around id before after bytes) ∙ or_true (has_id id element)

pub put_among-none : (id : ℕ) (comes elements : List Element) → HasNone elements id → put_among id comes elements ≡ elements ++ comes
put_among-none id comes [] none = refl
put_among-none id comes (element ∷ elements) none =
    ap (λ (b : Bool). cond b (cond (list_any (has_id id) elements) (put_among id comes elements) (comes ++ elements)) (element ∷ put_among id comes elements))
    (ne_eqb element.0 id (All-head (λ (e : Element). e.0 ≢ id) element elements none))
    ∙ ap (λ es. element ∷ es) (put_among-none id comes elements (All-tail (λ (e : Element). e.0 ≢ id) element elements none))

pub put_among-last : (id : ℕ) (was : List ℕ) (comes before after : List Element) → HasNone after id
    → put_among id comes (before ++ (id, was) ∷ after) ≡ without id before ++ (comes ++ after)
put_among-last id was comes [] after none =
    ap (λ (b : Bool). cond b (cond (list_any (has_id id) after) (put_among id comes after) (comes ++ after)) ((id, was) ∷ put_among id comes after)) (eq-eqb id id refl)
    ∙ ap (λ (b : Bool). cond b (put_among id comes after) (comes ++ after)) (any-none id after none)
put_among-last id was comes (element ∷ before) after none = by_test (put_among-last id was comes before after none) (has_id id element) refl
  where
    by_test : put_among id comes (before ++ (id, was) ∷ after) ≡ without id before ++ (comes ++ after) → (same : Bool) → has_id id element ≡ same
        → put_among id comes (element ∷ before ++ (id, was) ∷ after) ≡ without id (element ∷ before) ++ (comes ++ after)
    by_test others true is =
        ap (λ (b : Bool). cond b (cond (list_any (has_id id) (before ++ (id, was) ∷ after)) (put_among id comes (before ++ (id, was) ∷ after)) (comes ++ (before ++ (id, was) ∷ after)))
        (element ∷ put_among id comes (before ++ (id, was) ∷ after))) is
        ∙ (ap (λ (b : Bool). cond b (put_among id comes (before ++ (id, was) ∷ after)) (comes ++ (before ++ (id, was) ∷ after))) (any-around id before after was)
        ∙ (others
        ∙ ap (λ (b : Bool). cond (not b) (element ∷ without id before) (without id before) ++ (comes ++ after)) (sym is)))
    by_test others false is =
        ap (λ (b : Bool). cond b (cond (list_any (has_id id) (before ++ (id, was) ∷ after)) (put_among id comes (before ++ (id, was) ∷ after)) (comes ++ (before ++ (id, was) ∷ after)))
        (element ∷ put_among id comes (before ++ (id, was) ∷ after))) is
        ∙ (ap (λ es. element ∷ es) others
        ∙ ap (λ (b : Bool). cond (not b) (element ∷ without id before) (without id before) ++ (comes ++ after)) (sym is))

pub put_element-none : (new : Element) (elements : List Element) → HasNone elements new.0 → put_element new elements ≡ elements ++ new ∷ []
put_element-none new elements none = put_among-none new.0 (new ∷ []) elements none

pub put_element-last : (id : ℕ) (bytes was : List ℕ) (before after : List Element) → HasNone after id
    → put_element (id, bytes) (before ++ (id, was) ∷ after) ≡ without id before ++ (id, bytes) ∷ after
put_element-last id bytes was before after none = put_among-last id was ((id, bytes) ∷ []) before after none

-- ---- a body whose one element of the id has as many bytes

sole-counted : {elements : List Element} (id : ℕ) (bytes : List ℕ) → IsSole elements (id, bytes) → length (filter (goes id) elements) ≡ 1
sole-counted id bytes sole =
    omega (
      arith,
      ap (λ es. length (filter (goes id) es)) sole.in_order,
      count-around id sole.before sole.after sole.was,
      ap length (filter-none id sole.before sole.none_before sole.no_zero_before),
      ap length (filter-none id sole.after sole.none_after sole.no_zero_after),
    )

-- the elements around the last one of the id
in_order : (form : ExtensionsForm) (id : ℕ) (body : List ℕ) (place : Place) (elements : List Element) → (is : IsLastPlace (AreElements form) id body place) → AreElements form body elements
    → elements ≡ is.before ++ (id, is.was) ∷ is.after
in_order form id body place elements is are =
    AreElements-same form body elements (is.before ++ (id, is.was) ∷ is.after) are
    (subst (λ b. AreElements form b (is.before ++ (id, is.was) ∷ is.after)) (sym is.bytes_are) (is.set is.was refl))

-- no survey without a place for an id that has a sole element
pub sole-absent : {form : ExtensionsForm} {body : List ℕ} {id : ℕ} {survey : Survey} {elements : List Element} (bytes : List ℕ) → IsSurvey form body id survey → AreElements form body elements
    → survey.last ≡ None → IsSole elements (id, bytes) → ⊥
sole-absent {form} {body} {id} {elements} bytes is are none sole =
    let has_none : HasNone is.elements id = subst (λ (last : Option Place). IfNone last (HasNone is.elements id)) none is.none_is in
    let same : is.elements ≡ elements = AreElements-same form body is.elements elements is.are_elements are in
    false≢true (sym (any-none id is.elements has_none) ∙ (ap (list_any (has_id id)) (same ∙ sole.in_order) ∙ any-around id sole.before sole.after sole.was))

module _ (form : ExtensionsForm) (body : List ℕ) (id : ℕ) (survey : Survey) (place : Place) (is : IsSurvey form body id survey) (found : survey.last ≡ Some place) where
  pub last_known : IsLastPlace (AreElements form) id body place
  last_known =
      IsLastPlace-lies form id body place
      (subst (λ (last : Option Place). IfSome last (λ at. (at.id ≡ id) × LiesLast form (AreElements form) id body at)) found is.last_is)

  pub data_within : place.data_start ≤ place.end
  data_within = let e = last_known.end_is in omega arith

  pub data_in_body : place.end ≤ length body
  data_in_body =
      let l = last_known in
      omega (arith, l.data_is, l.end_is, ap length l.bytes_are, length-append l.front (l.was ++ l.rest), length-append l.was l.rest)

  -- it is counted once where it is the only one
  pub counted_once : (elements : List Element) (bytes : List ℕ) → AreElements form body elements → IsSole elements (id, bytes) → (survey.count ≡ 1) × (place.end - place.data_start ≡ length bytes)
  counted_once elements bytes are sole =
      let same : is.elements ≡ elements = AreElements-same form body is.elements elements is.are_elements are in
      let l = last_known in
      let one : sole.was ≡ l.was =
      HasLast-only sole.was (record { before = sole.before; after = sole.after; in_order = sole.in_order; last = sole.none_after })
      (HasLast-place l are) in (
        is.count_is ∙ (ap (λ es. length (filter (goes id) es)) same ∙ sole-counted id bytes sole),
        omega (arith, l.end_is, ap length one, sole.as_many),
      )

  module _ (elements : List Element) (bytes : List ℕ) (are : AreElements form body elements) (once : survey.count ≡ 1) (as_many : place.end - place.data_start ≡ length bytes) where
    around : elements ≡ last_known.before ++ (id, last_known.was) ∷ last_known.after
    around = in_order form id body place elements last_known are

    around-counted : length (filter (goes id) last_known.before) + length (filter (goes id) last_known.after) ≡ 0
    around-counted =
        let same : is.elements ≡ elements = AreElements-same form body is.elements elements is.are_elements are in
        omega (arith, is.count_is, once, ap (λ es. length (filter (goes id) es)) (same ∙ around), count-around id last_known.before last_known.after last_known.was)

    pub sole_found : IsSole elements (id, bytes)
    sole_found = record {
      before = last_known.before;
      after = last_known.after;
      was = last_known.was;
      in_order = around;
      none_before = none-counted id id last_known.before (goes-this id) (omega (arith, around-counted));
      none_after = last_known.last;
      no_zero_before = none-counted id 0 last_known.before (goes-zero id) (omega (arith, around-counted));
      no_zero_after = none-counted id 0 last_known.after (goes-zero id) (omega (arith, around-counted));
      as_many = let e = last_known.end_is in omega arith;
    }

    pub sole_set : (new : List ℕ) → new ≡ overwritten body place.data_start bytes → AreElements form new (put_element (id, bytes) elements)
    sole_set new new_is =
        let l = last_known in
        let set : SetsLast form id bytes body new = SetsLast-at form bytes l as_many new_is in
        let listed : elements ≡ set.before ++ (id, set.was) ∷ set.after = AreElements-same form body elements (set.before ++ (id, set.was) ∷ set.after) are set.old_elements in
        let same : is.elements ≡ elements = AreElements-same form body is.elements elements is.are_elements are in
        let front : HasNone set.before id =
        none-counted id id set.before (goes-this id) (omega (arith, is.count_is, once, ap (λ es. length (filter (goes id) es)) (same ∙ listed), count-around id set.before set.after set.was)) in
        subst (AreElements form new)
        (sym (ap (put_element (id, bytes)) listed ∙ (put_element-last id bytes set.was set.before set.after set.last
        ∙ ap (λ es. es ++ (id, bytes) ∷ set.after) (without-none id set.before front))))
        set.new_elements
