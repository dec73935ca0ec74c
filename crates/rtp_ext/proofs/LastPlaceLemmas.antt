-- The last element of an id, and its place.
use Rattle.rtp_ext.proofs.Common.{◌≡◌, ◌≢◌, ℕ, ◌-◌, ◌≤◌, List, [], ◌∷◌, ◌++◌, length, take, drop, replicate, Option, Some, None, IfSome, append_assoc, length-append, arith, refl, sym, ap, ◌∙◌, subst, append-nil, drop_at, take_at, length-replicate, All-nil, All-cons, All-append, All-contains, Contains-append_right, ExtensionsForm, OneByte, TwoByte, overwritten, Place, Element, IsElement, element_bytes, AreElements, BeginsWithNoElement, element_header, HasNone, HasLast, SetsLast, LiesAt, IsNextPlace, AreWhole, IsLastPlace, LiesLast, IsLastOrNone, IsPassed}
use Rattle.rtp_ext.proofs.ElementLemmasOfBodies.{AreElements-only}
use Rattle.rtp_ext.proofs.PlaceLemmas.{element_bytes-split, length-lies, overwritten-at, passed_next, end_next}
use Rattle.rtp_ext.proofs.PieceLemmas.{AreWhole-nil, AreWhole-zeros, AreWhole-append, AreElements-after, AreWhole-element, AreWhole-next, AreElements-none}

-- a body has one list of elements
pub AreElements-same : (form : ExtensionsForm) (body : List ℕ) (xs ys : List Element) → AreElements form body xs → AreElements form body ys → xs ≡ ys
AreElements-same form body xs ys are others = AreElements-only form body xs are ∙ sym (AreElements-only form body ys others)

IsElement-others : (form : ExtensionsForm) (id : ℕ) (bytes others : List ℕ) → length others ≡ length bytes → IsElement form (id, bytes) → IsElement form (id, others)
IsElement-others OneByte id bytes others as_many is = (omega arith, omega arith, omega arith, omega arith)
IsElement-others TwoByte id bytes others as_many is = (omega arith, omega arith, omega arith)

-- an element is followed by another
LiesLast-other : {form : ExtensionsForm} {id : ℕ} {bytes more : List ℕ} {place : Place} (element : Element) → LiesLast form (AreWhole form) id bytes place
    → AreWhole form more (element ∷ []) → element.0 ≢ id → LiesLast form (AreWhole form) id (bytes ++ more) place
LiesLast-other {form} {id} {more} {place} element is next other =
    let here : List ℕ = element_bytes form (place.id, is.lies.bytes) in
    record {
      lies = record {
        front = is.lies.front;
        bytes = is.lies.bytes;
        after = is.lies.after ++ more;
        is_element = is.lies.is_element;
        body_is = ap (λ b. b ++ more) is.lies.body_is
            ∙ (append_assoc is.lies.front (here ++ is.lies.after) more ∙ ap (λ b. is.lies.front ++ b) (append_assoc here is.lies.after more));
        start_is = is.lies.start_is;
        data_is = is.lies.data_is;
        end_is = is.lies.end_is;
      };
      before = is.before;
      after = is.after ++ element ∷ [];
      whole = is.whole;
      left = AreWhole-append is.left next;
      last = All-append (λ (e : Element). e.0 ≢ id) is.after (element ∷ []) is.last
          (All-cons (λ (e : Element). e.0 ≢ id) element [] other (All-nil (λ (e : Element). e.0 ≢ id)));
    }

-- an element is the last so far
LiesLast-this : {form : ExtensionsForm} {body passed : List ℕ} {at : ℕ} {place : Place} {elements : List Element} → at ≡ length passed → AreWhole form passed elements
    → (next : IsNextPlace form body at place) → LiesLast form (AreWhole form) place.id (passed ++ (replicate next.padding 0 ++ element_bytes form (place.id, next.bytes))) place
LiesLast-this {form} {passed} {place} {elements} at_is whole next =
    let zeros : List ℕ = replicate next.padding 0 in
    let here : List ℕ = element_bytes form (place.id, next.bytes) in
    record {
      lies = record {
        front = passed ++ zeros;
        bytes = next.bytes;
        after = [];
        is_element = next.is_element;
        body_is = sym (append_assoc passed zeros here) ∙ ap (λ b. (passed ++ zeros) ++ b) (sym (append-nil here));
        start_is = omega (arith, next.start_is, length-append passed zeros, length-replicate {A = ℕ} next.padding 0);
        data_is = next.data_is;
        end_is = next.end_is;
      };
      before = elements;
      after = [];
      whole = subst (AreWhole form (passed ++ zeros)) (append-nil elements)
          (AreWhole-append whole (AreWhole-zeros form next.padding));
      left = AreWhole-nil form;
      last = All-nil (λ (e : Element). e.0 ≢ place.id);
    }

-- from the front of a body on
pub IsPassed-start : (form : ExtensionsForm) (body : List ℕ) (id : ℕ) → IsPassed form body 0 id None
IsPassed-start form body id = record {
  passed = [];
  left = body;
  elements = [];
  body_is = refl;
  at_is = refl;
  are_whole = AreWhole-nil form;
  last_is = All-nil (λ (e : Element). e.0 ≢ id);
}

IsLastOrNone-other : {form : ExtensionsForm} (id : ℕ) (bytes : List ℕ) {more : List ℕ} (elements : List Element) (last : Option Place) (element : Element)
    → IsLastOrNone form id bytes elements last → AreWhole form more (element ∷ []) → element.0 ≢ id → IsLastOrNone form id (bytes ++ more) (elements ++ element ∷ []) last
IsLastOrNone-other id bytes elements None element is next other =
    All-append (λ (e : Element). e.0 ≢ id) elements (element ∷ []) is (All-cons (λ (e : Element). e.0 ≢ id) element [] other (All-nil (λ (e : Element). e.0 ≢ id)))
IsLastOrNone-other id bytes elements (Some place) element is next other =
    (is.0, LiesLast-other element is.1 next other)

passed_by : (form : ExtensionsForm) (body : List ℕ) (at id : ℕ) (last now : Option Place) (place : Place) (was : IsPassed form body at id last) (next : IsNextPlace form body at place)
    → IsLastOrNone form id (was.passed ++ (replicate next.padding 0 ++ element_bytes form (place.id, next.bytes))) (was.elements ++ (place.id, next.bytes) ∷ []) now
    → IsPassed form body place.end id now
passed_by form body at id last now place was next last_is = record {
  passed = was.passed ++ (replicate next.padding 0 ++ element_bytes form (place.id, next.bytes));
  left = next.after;
  elements = was.elements ++ (place.id, next.bytes) ∷ [];
  body_is = passed_next was.passed was.left was.body_is was.at_is next;
  at_is = end_next was.passed was.at_is next;
  are_whole = AreWhole-append
      was.are_whole (AreWhole-next form next.padding (place.id, next.bytes) next.is_element);
  last_is = last_is;
}

pub IsPassed-other : (form : ExtensionsForm) (body : List ℕ) (at id : ℕ) (last : Option Place) (place : Place) → IsPassed form body at id last → IsNextPlace form body at place
    → place.id ≢ id → IsPassed form body place.end id last
IsPassed-other form body at id last place was next other =
    passed_by form body at id last last place was next
    (IsLastOrNone-other id was.passed was.elements last (place.id, next.bytes) was.last_is
    (AreWhole-next form next.padding (place.id, next.bytes) next.is_element) other)

pub IsPassed-this : (form : ExtensionsForm) (body : List ℕ) (at id : ℕ) (last : Option Place) (place : Place) → IsPassed form body at id last → IsNextPlace form body at place
    → place.id ≡ id → IsPassed form body place.end id (Some place)
IsPassed-this form body at id last place was next this =
    let bytes : List ℕ = was.passed ++ (replicate next.padding 0 ++ element_bytes form (place.id, next.bytes)) in
    passed_by form body at id last (Some place) place was next
    (this, subst (λ k. LiesLast form (AreWhole form) k bytes place) this (LiesLast-this was.at_is was.are_whole next))

-- where reading ends
ended_left : {form : ExtensionsForm} {body : List ℕ} {at id : ℕ} {last : Option Place} (was : IsPassed form body at id last) → BeginsWithNoElement form (drop at body) → AreElements form was.left []
ended_left {form} {at} was none =
    subst (λ b. AreElements form b []) (ap (drop at) was.body_is ∙ drop_at was.passed was.left at (sym was.at_is)) (AreElements-none none)

pub IsPassed-lies : {form : ExtensionsForm} {body : List ℕ} {at id : ℕ} (last : Option Place) → IsPassed form body at id last → BeginsWithNoElement form (drop at body)
    → IfSome last (λ place. (place.id ≡ id) × LiesLast form (AreElements form) id body place)
IsPassed-lies None was none = tt
IsPassed-lies {form} {id} (Some place) was none =
    let is : LiesLast form (AreWhole form) id was.passed place = was.last_is.1 in
    let here : List ℕ = element_bytes form (place.id, is.lies.bytes) in (
      was.last_is.0,
      record {
        lies = record {
          front = is.lies.front;
          bytes = is.lies.bytes;
          after = is.lies.after ++ was.left;
          is_element = is.lies.is_element;
          body_is = was.body_is ∙ (ap (λ b. b ++ was.left) is.lies.body_is
              ∙ (append_assoc is.lies.front (here ++ is.lies.after) was.left ∙ ap (λ b. is.lies.front ++ b) (append_assoc here is.lies.after was.left)));
          start_is = is.lies.start_is;
          data_is = is.lies.data_is;
          end_is = is.lies.end_is;
        };
        before = is.before;
        after = is.after;
        whole = is.whole;
        left = subst (AreElements form (is.lies.after ++ was.left)) (append-nil is.after)
            (AreElements-after form is.lies.after was.left is.after [] is.left (ended_left was none));
        last = is.last;
      },
    )

-- the element that lies there may have any data that are as many
IsLastPlace-here : {form : ExtensionsForm} {body : List ℕ} {place : Place} → LiesLast form (AreElements form) place.id body place → IsLastPlace (AreElements form) place.id body place
IsLastPlace-here {form} {place} is =
    let header : List ℕ = element_header form place.id (length is.lies.bytes) in
    let split : (others : List ℕ) → length others ≡ length is.lies.bytes
    → is.lies.front ++ (element_bytes form (place.id, others) ++ is.lies.after) ≡ (is.lies.front ++ header) ++ (others ++ is.lies.after) = λ others as_many.
    ap (λ b. is.lies.front ++ (b ++ is.lies.after)) (element_bytes-split form place.id others ∙ ap (λ n. element_header form place.id n ++ others) as_many)
    ∙ simp append_assoc in
    record {
      front = is.lies.front ++ header;
      was = is.lies.bytes;
      rest = is.lies.after;
      before = is.before;
      after = is.after;
      bytes_are = is.lies.body_is ∙ split is.lies.bytes refl;
      data_is = omega (arith, is.lies.start_is, is.lies.data_is, length-append is.lies.front header);
      end_is = is.lies.end_is;
      last = is.last;
      set = λ others as_many.
          subst (λ b. AreElements form b (is.before ++ (place.id, others) ∷ is.after)) (split others as_many)
          (AreElements-after form is.lies.front (element_bytes form (place.id, others) ++ is.lies.after) is.before ((place.id, others) ∷ is.after) is.whole
          (AreElements-after form (element_bytes form (place.id, others)) is.lies.after ((place.id, others) ∷ []) is.after
          (AreWhole-element form (place.id, others) (IsElement-others form place.id is.lies.bytes others as_many is.lies.is_element)) is.left));
    }

pub IsLastPlace-lies : (form : ExtensionsForm) (id : ℕ) (body : List ℕ) (place : Place) → (place.id ≡ id) × LiesLast form (AreElements form) id body place
    → IsLastPlace (AreElements form) id body place
IsLastPlace-lies form id body place is =
    subst (λ k. IsLastPlace (AreElements form) k body place) is.0
    (IsLastPlace-here (subst (λ k. LiesLast form (AreElements form) k body place) (sym is.0) is.1))

LiesAt-within : {form : ExtensionsForm} {body : List ℕ} {place : Place} → LiesAt form body place → place.end ≤ length body
LiesAt-within {form} {place} lies =
    omega (
      arith,
      length-lies lies,
      lies.start_is,
      ap length lies.body_is,
      length-append lies.front (element_bytes form (place.id, lies.bytes) ++ lies.after),
      length-append (element_bytes form (place.id, lies.bytes)) lies.after,
    )

pub lies-within : (form : ExtensionsForm) (id : ℕ) (body : List ℕ) (last : Option Place) → IfSome last (λ place. (place.id ≡ id) × LiesLast form (AreElements form) id body place)
    → IfSome last (λ place. place.end ≤ length body)
lies-within form id body None is = tt
lies-within form id body (Some place) is = LiesAt-within is.1.lies

-- the last of an id is one
HasNone-absurd : (before after : List Element) (id : ℕ) (bytes : List ℕ) → HasNone (before ++ (id, bytes) ∷ after) id → ⊥
HasNone-absurd before after id bytes none =
    All-contains (λ (e : Element). e.0 ≢ id) (before ++ (id, bytes) ∷ after) (id, bytes) none
    (Contains-append_right before ((id, bytes) ∷ after) (id, bytes) (0, omega arith, refl)) refl

one_last : (id : ℕ) (x y : List ℕ) (b1 a1 b2 a2 : List Element) → b1 ++ (id, x) ∷ a1 ≡ b2 ++ (id, y) ∷ a2 → HasNone a1 id → HasNone a2 id → x ≡ y
one_last id x y [] a1 [] a2 same none others = let same_first : (id, x) ≡ (id, y) = cc in ap (λ (e : Element). e.1) same_first
one_last id x y [] a1 (e ∷ b2) a2 same none others =
    let left : a1 ≡ b2 ++ (id, y) ∷ a2 = cc in absurd (HasNone-absurd b2 a2 id y (subst (λ es. HasNone es id) left none))
one_last id x y (e ∷ b1) a1 [] a2 same none others =
    let left : a2 ≡ b1 ++ (id, x) ∷ a1 = cc in absurd (HasNone-absurd b1 a1 id x (subst (λ es. HasNone es id) left others))
one_last id x y (e ∷ b1) a1 (d ∷ b2) a2 same none others =
    let left : b1 ++ (id, x) ∷ a1 ≡ b2 ++ (id, y) ∷ a2 = cc in one_last id x y b1 a1 b2 a2 left none others

pub HasLast-only : {elements : List Element} {id : ℕ} (x : List ℕ) {y : List ℕ} → HasLast elements id x → HasLast elements id y → x ≡ y
HasLast-only {id} x {y} one other = one_last id x y one.before one.after other.before other.after (sym one.in_order ∙ other.in_order) one.last other.last

-- what is set
pub HasLast-place : {form : ExtensionsForm} {id : ℕ} {body : List ℕ} {place : Place} {elements : List Element} → (is : IsLastPlace (AreElements form) id body place) → AreElements form body elements
    → HasLast elements id is.was
HasLast-place {form} {id} {body} {elements} is are = record {
  before = is.before;
  after = is.after;
  in_order = AreElements-same form body elements (is.before ++ (id, is.was) ∷ is.after) are
      (subst (λ b. AreElements form b (is.before ++ (id, is.was) ∷ is.after)) (sym is.bytes_are) (is.set is.was refl));
  last = is.last;
}

-- and its data are the bytes there
pub HasLast-data : {form : ExtensionsForm} {id : ℕ} {body : List ℕ} {place : Place} {elements : List Element} → IsLastPlace (AreElements form) id body place → AreElements form body elements
    → HasLast elements id (take (place.end - place.data_start) (drop place.data_start body))
HasLast-data {id} {body} {place} {elements} is are =
    let left : drop place.data_start body ≡ is.was ++ is.rest = ap (drop place.data_start) is.bytes_are ∙ drop_at is.front (is.was ++ is.rest) place.data_start (sym is.data_is) in
    let bytes : take (place.end - place.data_start) (drop place.data_start body) ≡ is.was =
    ap (take (place.end - place.data_start)) left ∙ take_at is.was is.rest (place.end - place.data_start) (omega (arith, is.end_is)) in
    subst (HasLast elements id) (sym bytes) (HasLast-place is are)

pub SetsLast-at : (form : ExtensionsForm) {id : ℕ} (bytes : List ℕ) {body new : List ℕ} {place : Place} → IsLastPlace (AreElements form) id body place → place.end - place.data_start ≡ length bytes
    → new ≡ overwritten body place.data_start bytes → SetsLast form id bytes body new
SetsLast-at form {id} bytes {new} {place} is len written =
    let as_many : length is.was ≡ length bytes = omega (arith, is.end_is) in
    let new_is : new ≡ is.front ++ (bytes ++ is.rest) =
    written ∙ (ap (λ b. overwritten b place.data_start bytes) is.bytes_are ∙ overwritten-at is.front is.was is.rest bytes place.data_start is.data_is as_many) in
    record {
      front = is.front;
      was = is.was;
      rest = is.rest;
      before = is.before;
      after = is.after;
      as_many = as_many;
      old_is = is.bytes_are;
      new_is = new_is;
      old_elements = subst (λ b. AreElements form b (is.before ++ (id, is.was) ∷ is.after)) (sym is.bytes_are) (is.set is.was refl);
      new_elements = subst (λ b. AreElements form b (is.before ++ (id, bytes) ∷ is.after)) (sym new_is) (is.set bytes (sym as_many));
      last = is.last;
    }

-- the elements that were passed, with one more
pub elements-other : {form : ExtensionsForm} {body : List ℕ} {at id : ℕ} {last : Option Place} {place : Place} (was : IsPassed form body at id last) (next : IsNextPlace form body at place)
    → (other : place.id ≢ id) → (IsPassed-other form body at id last place was next other).elements ≡ was.elements ++ (place.id, next.bytes) ∷ []
unfolding IsPassed-other passed_by
elements-other was next other = refl

pub elements-this : {form : ExtensionsForm} {body : List ℕ} {at id : ℕ} {last : Option Place} {place : Place} (was : IsPassed form body at id last) (next : IsNextPlace form body at place)
    → (this : place.id ≡ id) → (IsPassed-this form body at id last place was next this).elements ≡ was.elements ++ (place.id, next.bytes) ∷ []
unfolding IsPassed-this passed_by
elements-this was next this = refl

pub elements-start : (form : ExtensionsForm) (body : List ℕ) (id : ℕ) → (IsPassed-start form body id).elements ≡ []
unfolding IsPassed-start
elements-start form body id = refl
