-- Each element that is put is the only one of its id, and where it lies in a row.
use Rattle.std.proofs.Common.{◌≡◌, ◌≢◌, ℕ, zero, suc, ◌+◌, ◌-◌, ◌*◌, Bool, true, false, cond, List, [], ◌∷◌, ◌++◌, length, drop, replicate, Option, Some, None, All, refl, sym, ap, subst, ◌∙◌, arith, append_assoc, drop_at}
use Rattle.std.specs.List.{filter, filter_map, flat_map, list_any, AllByRecursion}
use Rattle.std.proofs.lemmas.Bool.{eq-eqb, eqb-true, ne_eqb, false≢true}
use Rattle.std.proofs.lemmas.List.Elements.{filter-append, All-nil, All-cons, All-head, All-tail}
use Rattle.rtp_ext.specs.declared.form.ExtensionsForm.{ExtensionsForm}
use Rattle.rtp_ext.specs.declared.form.ExtensionsForm.TheVariants.{OneByte, TwoByte}
use Rattle.rtp_ext.specs.declared.place.Place.{Place}
use Rattle.rtp_ext.specs.Elements.{Element, IsElement, element_bytes, elements_bytes, IsPiece, piece_bytes, AreElements, ended}
use Rattle.rtp_ext.specs.ElementPlaces.{LiesLast}
use Rattle.rtp_ext.specs.ElementReading.{elements_left}
use Rattle.rtp_ext.specs.ElementWriting.{element_header}
use Rattle.rtp_ext.specs.ElementsInPlace.{HasNone}
use Rattle.rtp_ext.specs.PutElement.{has_id, put_element}
use Rattle.rtp_ext.specs.WrittenBlock.{filled, padding_of}
use Rattle.rtp_ext.proofs.ElementLemmas.{elements_left-none, elements_left-padding}
use Rattle.rtp_ext.proofs.ElementLemmasOfBodies.{elements_left-element, AreElements-padding, AreElements-element, AreElements-tail}
use Rattle.rtp_route.specs.declared.slots.Slot.{Slot}
use Rattle.rtp_route.specs.Routing.{put_all}
use Rattle.rtp_route.specs.Template.{HaveOwnIds, HasOnly, IsSlot}

any-counted : (id : ℕ) (elements : List Element) → list_any (has_id id) elements ≡ false → filter (has_id id) elements ≡ []
any-counted id [] none = refl
any-counted id (element ∷ elements) none = by_test (λ rest. any-counted id elements rest) (has_id id element) refl
  where
    by_test : (list_any (has_id id) elements ≡ false → filter (has_id id) elements ≡ []) → (b : Bool) → has_id id element ≡ b → cond (has_id id element) (element ∷ filter (has_id id) elements) (filter (has_id id) elements) ≡ []
    by_test others true is = absurd cc
    by_test others false is =
        let rest : list_any (has_id id) elements ≡ false = cc in
        ap (λ (b : Bool). cond b (element ∷ filter (has_id id) elements) (filter (has_id id) elements)) is ∙ others rest

keep : (p : Element → Bool) (element : Element) (elements : List Element) (b : Bool) → p element ≡ b → filter p (element ∷ elements) ≡ cond b (element ∷ filter p elements) (filter p elements)
keep p element elements b is = ap (λ (c : Bool). cond c (element ∷ filter p elements) (filter p elements)) is

only-put : (new : Element) (elements : List Element) → HasOnly (put_element new elements) new
only-put new [] = keep (has_id new.0) new [] true (eq-eqb new.0 new.0 refl)
only-put new (element ∷ elements) = by_test (only-put new elements) (has_id new.0 element) (list_any (has_id new.0) elements) refl refl
  where
    by_test : HasOnly (put_element new elements) new → (a b : Bool) → has_id new.0 element ≡ a → list_any (has_id new.0) elements ≡ b
        → filter (has_id new.0) (cond (has_id new.0 element) (cond (list_any (has_id new.0) elements) (put_element new elements) (new ∷ elements)) (element ∷ put_element new elements)) ≡ new ∷ []
    by_test later true true is any =
        ap (λ (c : Bool). filter (has_id new.0) (cond c (cond (list_any (has_id new.0) elements) (put_element new elements) (new ∷ elements)) (element ∷ put_element new elements))) is
        ∙ ap (λ (c : Bool). filter (has_id new.0) (cond c (put_element new elements) (new ∷ elements))) any
        ∙ later
    by_test later true false is any =
        ap (λ (c : Bool). filter (has_id new.0) (cond c (cond (list_any (has_id new.0) elements) (put_element new elements) (new ∷ elements)) (element ∷ put_element new elements))) is
        ∙ ap (λ (c : Bool). filter (has_id new.0) (cond c (put_element new elements) (new ∷ elements))) any
        ∙ keep (has_id new.0) new elements true (eq-eqb new.0 new.0 refl)
        ∙ ap (λ (es : List Element). new ∷ es) (any-counted new.0 elements any)
    by_test later false b is any =
        ap (λ (c : Bool). filter (has_id new.0) (cond c (cond (list_any (has_id new.0) elements) (put_element new elements) (new ∷ elements)) (element ∷ put_element new elements))) is
        ∙ keep (has_id new.0) element (put_element new elements) false is
        ∙ later

-- those of another id stay
others-put : (id : ℕ) (new : Element) (elements : List Element) → new.0 ≢ id → filter (has_id id) (put_element new elements) ≡ filter (has_id id) elements
others-put id new [] other = keep (has_id id) new [] false (ne_eqb new.0 id other)
others-put id new (element ∷ elements) other = by_test (others-put id new elements other) (has_id new.0 element) (list_any (has_id new.0) elements) refl
  where
    either : (filter (has_id id) (put_element new elements) ≡ filter (has_id id) elements) → (b : Bool) → filter (has_id id) (cond b (put_element new elements) (new ∷ elements)) ≡ filter (has_id id) elements
    either later true = later
    either later false = keep (has_id id) new elements false (ne_eqb new.0 id other)

    by_test : (filter (has_id id) (put_element new elements) ≡ filter (has_id id) elements) → (a b : Bool) → has_id new.0 element ≡ a
        → filter (has_id id) (cond (has_id new.0 element) (cond (list_any (has_id new.0) elements) (put_element new elements) (new ∷ elements)) (element ∷ put_element new elements))
        ≡ filter (has_id id) (element ∷ elements)
    by_test later true b is =
        let same : element.0 ≡ new.0 = eqb-true element.0 new.0 is in
        let apart : has_id id element ≡ false = ne_eqb element.0 id (λ e. other (sym same ∙ e)) in
        ap (λ (c : Bool). filter (has_id id) (cond c (cond (list_any (has_id new.0) elements) (put_element new elements) (new ∷ elements)) (element ∷ put_element new elements))) is
        ∙ either later (list_any (has_id new.0) elements)
        ∙ sym (keep (has_id id) element elements false apart)
    by_test later false b is =
        ap (λ (c : Bool). filter (has_id id) (cond c (cond (list_any (has_id new.0) elements) (put_element new elements) (new ∷ elements)) (element ∷ put_element new elements))) is
        ∙ ap (λ (es : List Element). cond (has_id id element) (element ∷ es) es) later

others-put_all : (id : ℕ) (news elements : List Element) → HasNone news id → filter (has_id id) (put_all news elements) ≡ filter (has_id id) elements
others-put_all id [] elements none = refl
others-put_all id (new ∷ news) elements none =
    others-put_all id news (put_element new elements) (All-tail (λ (e : Element). e.0 ≢ id) new news none)
    ∙ others-put id new elements (All-head (λ (e : Element). e.0 ≢ id) new news none)

pub only-put_all : (news elements : List Element) → HaveOwnIds news → AllByRecursion (HasOnly (put_all news elements)) news
only-put_all [] elements own = tt
only-put_all (new ∷ news) elements own = (
  others-put_all new.0 news (put_element new elements) own.0 ∙ only-put new elements,
  only-put_all news (put_element new elements) own.1,
)

-- ---- elements in a row, with zeros behind them

zeros-left : (form : ExtensionsForm) (count : ℕ) → elements_left form (replicate count 0) ≡ []
zeros-left form zero = elements_left-none form
zeros-left form (suc count) = elements_left-padding form (replicate count 0) ∙ zeros-left form count

cancel : (xs a b : List ℕ) → xs ++ a ≡ xs ++ b → a ≡ b
cancel xs a b same = sym (drop_at xs a (length xs) refl) ∙ ap (drop (length xs)) same ∙ drop_at xs b (length xs) refl

some_first : (form : ExtensionsForm) (element : Element) (rest bytes : List ℕ) → IsElement form element → element_bytes form element ++ rest ≡ 0 ∷ bytes → ⊥
some_first OneByte element rest bytes is same = let none : element.0 * 16 + (length element.1 - 1) ≡ 0 = cc in absurd (omega (arith, none, is.3))
some_first TwoByte element rest bytes is same = let none : element.0 ≡ 0 = cc in absurd (omega (arith, none, is.0))

-- the pieces before an element in such a row are elements alone, and those before it
record StandsBehind (form : ExtensionsForm) (pieces : List (Option Element)) (elements : List Element) (element : Element) : Type 0 where
  pub rest : List Element
  pub in_order : elements ≡ filter_map (λ piece. piece) pieces ++ element ∷ rest
  pub bytes_are : flat_map (piece_bytes form) pieces ≡ elements_bytes form (filter_map (λ piece. piece) pieces)

stands-behind : (form : ExtensionsForm) (pieces : List (Option Element)) (elements : List Element) (element : Element) (after : List ℕ) (count : ℕ) → AllByRecursion (IsPiece form) pieces
    → AllByRecursion (IsElement form) elements → IsElement form element
    → elements_bytes form elements ++ replicate count 0 ≡ flat_map (piece_bytes form) pieces ++ (element_bytes form element ++ after) → StandsBehind form pieces elements element
stands-behind form [] [] element after count are all is same =
    let first : [] ≡ element ∷ elements_left form after = sym (zeros-left form count) ∙ ap (elements_left form) same ∙ elements_left-element form element after is in
    absurd cc
stands-behind form [] (x ∷ xs) element after count are all is same =
    let first : x ∷ elements_left form (elements_bytes form xs ++ replicate count 0) ≡ element ∷ elements_left form after =
    sym (elements_left-element form x (elements_bytes form xs ++ replicate count 0) all.0)
    ∙ ap (elements_left form) (sym (append_assoc (element_bytes form x) (elements_bytes form xs) (replicate count 0)) ∙ same)
    ∙ elements_left-element form element after is in
    let here : x ≡ element = cc in
    record { rest = xs; in_order = ap (λ (e : Element). e ∷ xs) here; bytes_are = refl }
stands-behind form (None ∷ pieces) [] element after zero are all is same = absurd cc
stands-behind form (None ∷ pieces) [] element after (suc count) are all is same =
    let left : replicate count 0 ≡ flat_map (piece_bytes form) pieces ++ (element_bytes form element ++ after) = ap (drop 1) same in
    let later = stands-behind form pieces [] element after count are.1 all is left in
    absurd (empty_not (filter_map (λ piece. piece) pieces) element later.rest later.in_order)
  where
    empty_not : (xs : List Element) (x : Element) (ys : List Element) → [] ≡ xs ++ x ∷ ys → ⊥
    empty_not [] x ys same = cc
    empty_not (z ∷ xs) x ys same = cc
stands-behind form (None ∷ pieces) (x ∷ xs) element after count are all is same =
    absurd (some_first form x (elements_bytes form xs ++ replicate count 0) (flat_map (piece_bytes form) pieces ++ (element_bytes form element ++ after)) all.0
    (sym (append_assoc (element_bytes form x) (elements_bytes form xs) (replicate count 0)) ∙ same))
stands-behind form (Some piece ∷ pieces) [] element after count are all is same =
    let rest : List ℕ = flat_map (piece_bytes form) pieces ++ (element_bytes form element ++ after) in
    let first : [] ≡ piece ∷ elements_left form rest =
    sym (zeros-left form count) ∙ ap (elements_left form) (same ∙ append_assoc (element_bytes form piece) (flat_map (piece_bytes form) pieces) (element_bytes form element ++ after))
    ∙ elements_left-element form piece rest are.0 in
    absurd cc
stands-behind form (Some piece ∷ pieces) (x ∷ xs) element after count are all is same =
    let row : List ℕ = elements_bytes form xs ++ replicate count 0 in
    let rest : List ℕ = flat_map (piece_bytes form) pieces ++ (element_bytes form element ++ after) in
    let both : element_bytes form x ++ row ≡ element_bytes form piece ++ rest =
    sym (append_assoc (element_bytes form x) (elements_bytes form xs) (replicate count 0)) ∙ same
    ∙ append_assoc (element_bytes form piece) (flat_map (piece_bytes form) pieces) (element_bytes form element ++ after) in
    let first : x ∷ elements_left form row ≡ piece ∷ elements_left form rest =
    sym (elements_left-element form x row all.0) ∙ ap (elements_left form) both ∙ elements_left-element form piece rest are.0 in
    let here : x ≡ piece = cc in
    let left : row ≡ rest = cancel (element_bytes form piece) row rest (ap (λ (e : Element). element_bytes form e ++ row) (sym here) ∙ both) in
    let later = stands-behind form pieces xs element after count are.1 all.1 is left in
    record {
      rest = later.rest;
      in_order = ap (λ (e : Element). e ∷ xs) here ∙ ap (λ (es : List Element). piece ∷ es) later.in_order;
      bytes_are = ap (λ (b : List ℕ). element_bytes form piece ++ b) later.bytes_are;
    }

-- none is of the id where none is found, and the other way round
pub filter-none : (id : ℕ) (elements : List Element) → HasNone elements id → filter (has_id id) elements ≡ []
filter-none id [] none = refl
filter-none id (element ∷ elements) none =
    ap (λ (b : Bool). cond b (element ∷ filter (has_id id) elements) (filter (has_id id) elements)) (ne_eqb element.0 id (All-head (λ (e : Element). e.0 ≢ id) element elements none))
    ∙ filter-none id elements (All-tail (λ (e : Element). e.0 ≢ id) element elements none)

none-filtered : (id : ℕ) (elements : List Element) → filter (has_id id) elements ≡ [] → HasNone elements id
none-filtered id [] none = All-nil (λ (e : Element). e.0 ≢ id)
none-filtered id (element ∷ elements) none = by_test (λ rest. none-filtered id elements rest) (has_id id element) refl
  where
    by_test : (filter (has_id id) elements ≡ [] → HasNone elements id) → (same : Bool) → has_id id element ≡ same → HasNone (element ∷ elements) id
    by_test others true is =
        let some : cond true (element ∷ filter (has_id id) elements) (filter (has_id id) elements) ≡ [] =
        ap (λ (b : Bool). cond b (element ∷ filter (has_id id) elements) (filter (has_id id) elements)) (sym is) ∙ none in
        absurd cc
    by_test others false is =
        let rest : filter (has_id id) elements ≡ [] = ap (λ (b : Bool). cond b (element ∷ filter (has_id id) elements) (filter (has_id id) elements)) (sym is) ∙ none in
        All-cons (λ (e : Element). e.0 ≢ id) element elements (λ same. false≢true (sym is ∙ eq-eqb element.0 id same)) (others rest)

-- the place of the only one of its id
pub slot-lies : (form : ExtensionsForm) (start : ℕ) (elements : List Element) (new : Element) (place : Place) (slot : Slot) → AllByRecursion (IsElement form) elements → HasOnly elements new
    → place.id ≡ new.0 → LiesLast form (AreElements form) new.0 (filled (elements_bytes form elements)) place → slot.start ≡ start + place.data_start → slot.len + place.data_start ≡ place.end
    → IsSlot form start elements new slot
slot-lies form start elements new place slot all only id_is last start_is len_is =
    let lies = last.lies in
    let whole = last.whole in
    let element : Element = (place.id, lies.bytes) in
    let stands = stands-behind form whole.pieces elements element lies.after (padding_of (length (elements_bytes form elements))) whole.are_pieces all lies.is_element
    (lies.body_is ∙ ap (λ (b : List ℕ). b ++ (element_bytes form element ++ lies.after)) whole.bytes_are) in
    let before : List Element = filter_map (λ piece. piece) whole.pieces in
    let counted : filter (has_id new.0) before ++ filter (has_id new.0) (element ∷ stands.rest) ≡ new ∷ [] =
    sym (filter-append (has_id new.0) before (element ∷ stands.rest)) ∙ ap (filter (has_id new.0)) (sym stands.in_order) ∙ only in
    let here : filter (has_id new.0) (element ∷ stands.rest) ≡ element ∷ filter (has_id new.0) stands.rest = keep (has_id new.0) element stands.rest true (eq-eqb place.id new.0 id_is) in
    let alone = one_alone (filter (has_id new.0) before) element (filter (has_id new.0) stands.rest) new (ap (λ (es : List Element). filter (has_id new.0) before ++ es) (sym here) ∙ counted) in
    let long : length lies.front ≡ length (elements_bytes form before) = ap length (whole.bytes_are ∙ stands.bytes_are) in
    let bytes : length lies.bytes ≡ length new.1 = ap (λ (e : Element). length e.1) alone.1 in
    record {
      before = before;
      after = stands.rest;
      in_order = stands.in_order ∙ ap (λ (e : Element). before ++ e ∷ stands.rest) alone.1;
      none_before = none-filtered new.0 before alone.0;
      none_after = none-filtered new.0 stands.rest alone.2;
      start_is = start_is ∙ ap (λ (k : ℕ). start + k) (lies.data_is ∙ ap (λ (k : ℕ). k + length (element_header form place.id (length lies.bytes))) (lies.start_is ∙ long)
          ∙ ap (λ (e : Element). length (elements_bytes form before) + length (element_header form e.0 (length e.1))) alone.1)
          ∙ omega arith;
      len_is = omega (arith, len_is, lies.end_is, bytes);
    }
  where
    one_alone : (xs : List Element) (x : Element) (ys : List Element) (new : Element) → xs ++ x ∷ ys ≡ new ∷ [] → (xs ≡ []) × (x ≡ new) × (ys ≡ [])
    one_alone [] x ys new same = (refl, cc, cc)
    one_alone (z ∷ []) x ys new same = absurd cc
    one_alone (z ∷ w ∷ xs) x ys new same = absurd cc

-- ---- what a reader finds in such a row

row-elements : (form : ExtensionsForm) (elements : List Element) (count : ℕ) → AllByRecursion (IsElement form) elements → AreElements form (elements_bytes form elements ++ replicate count 0) elements
row-elements form [] zero all = AreElements-tail form [] (ended refl)
row-elements form [] (suc count) all = AreElements-padding form (replicate count 0) [] (row-elements form [] count all)
row-elements form (element ∷ elements) count all =
    subst (λ (b : List ℕ). AreElements form b (element ∷ elements)) (sym (append_assoc (element_bytes form element) (elements_bytes form elements) (replicate count 0)))
    (AreElements-element form element (elements_bytes form elements ++ replicate count 0) elements all.0 (row-elements form elements count all.1))

pub elements-by_turns : (form : ExtensionsForm) (elements : List Element) → All (IsElement form) elements → AllByRecursion (IsElement form) elements
elements-by_turns form [] all = tt
elements-by_turns form (element ∷ elements) all = (All-head (IsElement form) element elements all, elements-by_turns form elements (All-tail (IsElement form) element elements all))

pub filled-elements : (form : ExtensionsForm) (elements : List Element) → AllByRecursion (IsElement form) elements → AreElements form (filled (elements_bytes form elements)) elements
filled-elements form elements all = row-elements form elements (padding_of (length (elements_bytes form elements))) all
