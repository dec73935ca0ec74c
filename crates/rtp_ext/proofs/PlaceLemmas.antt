-- Places of elements by offsets, and what is written there.
use Rattle.rtp_ext.proofs.Common.{◌≡◌, ℕ, ◌+◌, ◌≤◌, List, ◌++◌, length, take, drop, replicate, Option, append_assoc, length-append, length-drop, length-take-le, take-append-drop, arith, refl, sym, ap, ◌∙◌, subst, length-replicate, take_at, drop_at, ExtensionsForm, OneByte, TwoByte, Place, IsElement, element_bytes, BeginsWithElement, element_header, bytes_under, LiesAt, IsNextPlace}
use Rattle.rtp_base.specs.Overwriting.{overwritten}

-- an element is its header and its data
pub element_bytes-split : (form : ExtensionsForm) (id : ℕ) (bytes : List ℕ) → element_bytes form (id, bytes) ≡ element_header form id (length bytes) ++ bytes
element_bytes-split OneByte id bytes = refl
element_bytes-split TwoByte id bytes = refl

pub length-header : (form : ExtensionsForm) (id other len : ℕ) → length (element_header form id len) ≡ length (element_header form other len)
length-header OneByte id other len = refl
length-header TwoByte id other len = refl

pub length-header-some : (form : ExtensionsForm) (id len : ℕ) → 1 ≤ length (element_header form id len)
length-header-some OneByte id len = omega arith
length-header-some TwoByte id len = omega arith

pub length-element : (form : ExtensionsForm) (id : ℕ) (bytes : List ℕ) → length (element_bytes form (id, bytes)) ≡ length (element_header form id (length bytes)) + length bytes
length-element form id bytes = ap length (element_bytes-split form id bytes) ∙ length-append (element_header form id (length bytes)) bytes

-- bytes over as many others
pub overwritten-at : (front was rest bytes : List ℕ) (at : ℕ) → at ≡ length front → length was ≡ length bytes → overwritten (front ++ (was ++ rest)) at bytes ≡ front ++ (bytes ++ rest)
unfolding overwritten
overwritten-at front was rest bytes at is as_many =
    ap (λ b. b ++ (bytes ++ drop (at + length bytes) (front ++ (was ++ rest)))) (take_at front (was ++ rest) at (sym is))
    ∙ ap (λ b. front ++ (bytes ++ b)) (ap (drop (at + length bytes)) (sym (append_assoc front was rest))
    ∙ drop_at (front ++ was) rest (at + length bytes) (length-append front was ∙ omega arith))

-- what writing another header leaves, and writing zeros
pub renumbered_at : (form : ExtensionsForm) {body : List ℕ} (front bytes after : List ℕ) {start len : ℕ} (old id : ℕ) → body ≡ front ++ (element_bytes form (old, bytes) ++ after)
    → start ≡ length front → len ≡ length bytes → overwritten body start (element_header form id len) ≡ front ++ (element_bytes form (id, bytes) ++ after)
renumbered_at form {body} front bytes after {start} old id is start_is len_is =
    let header : List ℕ = element_header form id (length bytes) in
    let split : body ≡ front ++ (element_header form old (length bytes) ++ (bytes ++ after)) =
    is ∙ ap (λ b. front ++ b) (ap (λ b. b ++ after) (element_bytes-split form old bytes) ∙ append_assoc (element_header form old (length bytes)) bytes after) in
    ap (λ n. overwritten body start (element_header form id n)) len_is
    ∙ (ap (λ b. overwritten b start header) split
    ∙ (overwritten-at front (element_header form old (length bytes)) (bytes ++ after) header start start_is (length-header form old id (length bytes))
    ∙ ap (λ b. front ++ b) (sym (append_assoc header bytes after) ∙ ap (λ b. b ++ after) (sym (element_bytes-split form id bytes)))))

pub zeros_at : (form : ExtensionsForm) {body : List ℕ} (front bytes after : List ℕ) {start count : ℕ} (id : ℕ) → body ≡ front ++ (element_bytes form (id, bytes) ++ after)
    → start ≡ length front → count ≡ length (element_bytes form (id, bytes))
    → overwritten body start (replicate count 0) ≡ front ++ (replicate (length (element_bytes form (id, bytes))) 0 ++ after)
zeros_at form front bytes after {start} {count} id is start_is count_is =
    ap (λ b. overwritten b start (replicate count 0)) is
    ∙ (overwritten-at front (element_bytes form (id, bytes)) after (replicate count 0) start start_is (sym count_is ∙ sym (length-replicate count 0))
    ∙ ap (λ n. front ++ (replicate n 0 ++ after)) count_is)

pub length-lies : {form : ExtensionsForm} {body : List ℕ} {place : Place} (lies : LiesAt form body place)
    → place.end ≡ place.start + length (element_bytes form (place.id, lies.bytes))
length-lies {form} {place} lies = omega (arith, lies.data_is, lies.end_is, length-element form place.id lies.bytes)

-- the first element from an offset on
module _ {form : ExtensionsForm} (body : List ℕ) {left : List ℕ} (at id : ℕ) (bytes : List ℕ) {after : List ℕ} (within : at ≤ length body) (left_is : left ≡ drop at body)
    (begins : BeginsWithElement form left (id, bytes) after) where
  pub length-begins : at + begins.padding + length (element_header form id (length bytes)) + length bytes + length after ≡ length body
  length-begins =
      omega (
        arith,
        ap length (sym left_is ∙ begins.bytes_are),
        length-drop at body,
        length-append (replicate begins.padding 0) (element_bytes form (id, bytes) ++ after),
        length-replicate {A = ℕ} begins.padding 0,
        length-append (element_bytes form (id, bytes)) after,
        length-element form id bytes,
      )

  pub IsNextPlace-begins : (place : Place) → place.id ≡ id → place.start + length (element_header form id (length bytes)) ≡ place.data_start
      → place.data_start + length bytes ≡ place.end → place.end + length after ≡ length body → IsNextPlace form body at place
  IsNextPlace-begins place id_is start_at data_at end_at = record {
    padding = begins.padding;
    bytes = bytes;
    after = after;
    is_element = subst (λ (i : ℕ). IsElement form (i, bytes)) (sym id_is) begins.is_element;
    left_is = sym left_is ∙ (begins.bytes_are ∙ ap (λ (i : ℕ). replicate begins.padding 0 ++ (element_bytes form (i, bytes) ++ after)) (sym id_is));
    start_is = omega (arith, length-begins);
    data_is = omega (arith, length-header form place.id id (length bytes));
    end_is = omega arith;
    within = end_at;
  }

pub LiesAt-next : (form : ExtensionsForm) (body : List ℕ) (at : ℕ) (place : Place) → at ≤ length body → IsNextPlace form body at place → LiesAt form body place
LiesAt-next form body at place within next = record {
  front = take at body ++ replicate next.padding 0;
  bytes = next.bytes;
  after = next.after;
  is_element = next.is_element;
  body_is = sym (take-append-drop at body) ∙ (ap (λ b. take at body ++ b) next.left_is
      ∙ sym (append_assoc (take at body) (replicate next.padding 0) (element_bytes form (place.id, next.bytes) ++ next.after)));
  start_is = omega (arith, next.start_is, length-append (take at body) (replicate next.padding 0), length-take-le at body within, length-replicate {A = ℕ} next.padding 0);
  data_is = next.data_is;
  end_is = next.end_is;
}

-- the next element under another id, or as padding
pub renumbered_next : {form : ExtensionsForm} {body : List ℕ} (new : List ℕ) {at : ℕ} {place : Place} (id : Option ℕ) → at ≤ length body → (next : IsNextPlace form body at place)
    → ((lies : LiesAt form body place) → new ≡ lies.front ++ (bytes_under form (place.id, lies.bytes) id ++ lies.after))
    → new ≡ (take at body ++ replicate next.padding 0) ++ (bytes_under form (place.id, next.bytes) id ++ next.after)
unfolding LiesAt-next
renumbered_next {form} {body} new {at} {place} id within next written = written (LiesAt-next form body at place within next)

-- a body that was passed up to the offset, and then up to the end of the next element
pub left_next : {form : ExtensionsForm} {body : List ℕ} (passed left : List ℕ) {at : ℕ} {place : Place} → body ≡ passed ++ left → at ≡ length passed
    → (next : IsNextPlace form body at place) → left ≡ replicate next.padding 0 ++ (element_bytes form (place.id, next.bytes) ++ next.after)
left_next passed left {at} is at_is next = sym (ap (drop at) is ∙ drop_at passed left at (sym at_is)) ∙ next.left_is

pub passed_next : {form : ExtensionsForm} {body : List ℕ} (passed left : List ℕ) {at : ℕ} {place : Place} → body ≡ passed ++ left → at ≡ length passed
    → (next : IsNextPlace form body at place) → body ≡ (passed ++ (replicate next.padding 0 ++ element_bytes form (place.id, next.bytes))) ++ next.after
passed_next {form} passed left {place} is at_is next =
    let element : List ℕ = element_bytes form (place.id, next.bytes) in
    is ∙ (ap (λ b. passed ++ b) (left_next passed left is at_is next ∙ sym (append_assoc (replicate next.padding 0) element next.after))
    ∙ sym (append_assoc passed (replicate next.padding 0 ++ element) next.after))

pub end_next : {form : ExtensionsForm} {body : List ℕ} (passed : List ℕ) {at : ℕ} {place : Place} → at ≡ length passed
    → (next : IsNextPlace form body at place) → place.end ≡ length (passed ++ (replicate next.padding 0 ++ element_bytes form (place.id, next.bytes)))
end_next {form} passed {place} at_is next =
    omega (
      arith,
      next.start_is,
      next.data_is,
      next.end_is,
      length-append passed (replicate next.padding 0 ++ element_bytes form (place.id, next.bytes)),
      length-append (replicate next.padding 0) (element_bytes form (place.id, next.bytes)),
      length-replicate {A = ℕ} next.padding 0,
      length-element form place.id next.bytes,
    )
