-- Elements that are written one after the other.
use Rattle.rtp_ext.proofs.Common.{◌≡◌, ◌↔◌, ℕ, ◌+◌, ◌-◌, ◌≤◌, Option, Some, None, List, [], ◌∷◌, ◌++◌, length, take, drop, replicate, sym, ap, ◌∙◌, subst, arith, length-append, take_at, slice_get, IfSome, IfNone, SomeIff, AllByRecursion, drop_more, slice_get_within, get_or_from_slice_get, ExtensionsForm, OneByte, TwoByte, Element, IsElement, AreElements, element_bytes, elements_bytes, element_header, IsWritable, AreWritableIn, overwritten, overwritten-overwritten, overwritten-nil, overwritten-front, length-overwritten}
use Rattle.rtp_ext.proofs.WrittenBlockLemmas.{length-header}
use Rattle.rtp_ext.proofs.WrittenElementsLemmas.{AreElements-in_a_row}

-- data have at most 255 bytes
pub IsWritable-short : (form : ExtensionsForm) (element : Element) → IsWritable form element → length element.1 ≤ 255
IsWritable-short OneByte element is = let few = is.1.2 in omega arith
IsWritable-short TwoByte element is = is.1.2

all-elements : (form : ExtensionsForm) (elements : List Element) → AllByRecursion (IsWritable form) elements → AllByRecursion (IsElement form) elements
all-elements form [] all = tt
all-elements form (element ∷ elements) all = (all.0.1, all-elements form elements all.1)

-- the elements that are left, where there is one more
pub left-more : (elements : List Element) (i : ℕ) (element : Element) → slice_get elements i ≡ Some element
    → drop i elements ≡ element ∷ drop (i + 1) elements
left-more elements i element is =
    drop_more elements i element (slice_get_within elements i element is)
    ∙ ap (λ (e : Element). e ∷ drop (i + 1) elements) (get_or_from_slice_get elements i element element is)

-- ---- the room

-- what is left of the room, where an element takes some of it
abbrev pub IsRoomAfter : ExtensionsForm → Element → ℕ → Option ℕ → Type 0
IsRoomAfter form element room left =
    IfSome left (λ rest. IsWritable form element × (rest + length (element_bytes form element) ≡ room))
    × IfNone left (IsWritable form element → length (element_bytes form element) ≤ room → ⊥)

pub IsRoomAfter-taken : (form : ExtensionsForm) (id : ℕ) (bytes : List ℕ) (room : ℕ) {header : ℕ} (left : Option ℕ) → IsWritable form (id, bytes)
    → header ≡ length (element_header form id (length bytes)) → SomeIff left (header + length bytes ≤ room) (room - (header + length bytes))
    → IsRoomAfter form (id, bytes) room left
IsRoomAfter-taken form id bytes room None writable is none =
    (tt, λ again fits. none (omega (arith, is, length-header form id bytes)))
IsRoomAfter-taken form id bytes room (Some rest) writable is some =
    ((writable, omega (arith, is, length-header form id bytes, some.0, some.1)), tt)

pub AreWritableIn-more : (form : ExtensionsForm) {left : List Element} (more : List Element) (element : Element) {room : ℕ} (rest : ℕ) → left ≡ element ∷ more
    → IsWritable form element → rest + length (element_bytes form element) ≡ room → AreWritableIn form more rest ↔ AreWritableIn form left room
AreWritableIn-more form {left} more element rest split writable is =
    let long : length (elements_bytes form left) ≡ length (element_bytes form element) + length (elements_bytes form more) =
    ap (λ es. length (elements_bytes form es)) split ∙ length-append (element_bytes form element) (elements_bytes form more) in (
      λ fit. record {
        writable = subst (AllByRecursion (IsWritable form)) (sym split) (writable, fit.writable);
        bytes_fit = omega (arith, fit.bytes_fit, long);
      },
      λ fit. record {
        writable = (subst (AllByRecursion (IsWritable form)) split fit.writable).1;
        bytes_fit = omega (arith, fit.bytes_fit, long);
      },
    )

pub AreWritableIn-not : {form : ExtensionsForm} {left : List Element} (more : List Element) (element : Element) {room : ℕ} → left ≡ element ∷ more
    → (IsWritable form element → length (element_bytes form element) ≤ room → ⊥) → AreWritableIn form left room → ⊥
AreWritableIn-not {form} {left} more element split none fit =
    let long : length (elements_bytes form left) ≡ length (element_bytes form element) + length (elements_bytes form more) =
    ap (λ es. length (elements_bytes form es)) split ∙ length-append (element_bytes form element) (elements_bytes form more) in
    none (subst (AllByRecursion (IsWritable form)) split fit.writable).0 (omega (arith, fit.bytes_fit, long))

-- ---- the bytes

-- the elements before the offset are written, and with those that are left they are all
pub record AreUnderWay (form : ExtensionsForm) (old buf : List ℕ) (elements left : List Element) (at : ℕ) : Type 0 where
  pub makes : overwritten buf at (elements_bytes form left) ≡ overwritten old 0 (elements_bytes form elements)
  pub ends : at + length (elements_bytes form left) ≡ length (elements_bytes form elements)
  pub long : length buf ≡ length old
  pub fit : AreWritableIn form elements (length old)
  pub writable : AllByRecursion (IsWritable form) left

-- there is room for the next one
pub AreUnderWay-room : {form : ExtensionsForm} {old buf : List ℕ} {elements left : List Element} (more : List Element) (element : Element) {at : ℕ}
    → AreUnderWay form old buf elements left at → left ≡ element ∷ more
    → (at + length (element_bytes form element) ≤ length buf) × IsWritable form element
AreUnderWay-room {form} {left} more element before split =
    let long : length (elements_bytes form left) ≡ length (element_bytes form element) + length (elements_bytes form more) =
    ap (λ es. length (elements_bytes form es)) split ∙ length-append (element_bytes form element) (elements_bytes form more) in (
      omega (arith, before.ends, before.long, before.fit.bytes_fit, long),
      (subst (AllByRecursion (IsWritable form)) split before.writable).0,
    )

-- the next one is written
pub AreUnderWay-step : {form : ExtensionsForm} {old buf new : List ℕ} {elements left : List Element} (more : List Element) (element : Element) {at end : ℕ}
    → AreUnderWay form old buf elements left at → left ≡ element ∷ more → new ≡ overwritten buf at (element_bytes form element)
    → end ≡ at + length (element_bytes form element) → AreUnderWay form old new elements more end
AreUnderWay-step {form} {buf} {left} more element {at} {end} before split written end-is =
    let xs = element_bytes form element in
    let ys = elements_bytes form more in
    let bytes : elements_bytes form left ≡ xs ++ ys = ap (elements_bytes form) split in
    let sum = length-append xs ys in
    let fits : at + length (xs ++ ys) ≤ length buf = omega (arith, before.ends, before.long, before.fit.bytes_fit, ap length bytes) in
    record {
      makes = ap (λ (b : List ℕ). overwritten b end ys) written
          ∙ (overwritten-overwritten buf xs ys at end end-is (omega (arith, sum))
          ∙ (ap (overwritten buf at) (sym bytes) ∙ before.makes));
      ends = omega (arith, before.ends, ap length bytes, sum);
      long = ap length written ∙ (length-overwritten buf xs at (omega (arith, sum)) ∙ before.long);
      fit = before.fit;
      writable = (subst (AllByRecursion (IsWritable form)) split before.writable).1;
    }

-- all are written
pub AreUnderWay-end : {form : ExtensionsForm} {old buf : List ℕ} {elements left : List Element} {at : ℕ}
    → AreUnderWay form old buf elements left at → left ≡ []
    → (at ≡ length (elements_bytes form elements)) × (buf ≡ elements_bytes form elements ++ drop at old)
AreUnderWay-end {form} {old} {buf} {elements} {left} {at} before none =
    let row = elements_bytes form elements in
    let bytes : elements_bytes form left ≡ [] = ap (elements_bytes form) none in
    let end : at ≡ length row = omega (arith, before.ends, ap length bytes) in
    let whole : buf ≡ row ++ drop (length row) old =
    sym (overwritten-nil buf at) ∙ (ap (overwritten buf at) (sym bytes) ∙ (before.makes ∙ overwritten-front old row)) in
    (end, whole ∙ ap (λ (k : ℕ). row ++ drop k old) (sym end))

-- and are read, with any zeros after them
pub AreWritableIn-read : {form : ExtensionsForm} {elements : List Element} {room : ℕ} (zeros : ℕ) → AreWritableIn form elements room
    → AreElements form (elements_bytes form elements ++ replicate zeros 0) elements
AreWritableIn-read {form} {elements} zeros fit = AreElements-in_a_row form elements zeros (all-elements form elements fit.writable)

-- also as the front of the buffer
pub AreElements-front : {form : ExtensionsForm} {elements : List Element} {buf : List ℕ} (rest : List ℕ) {len : ℕ} (zeros : ℕ) → len ≡ length (elements_bytes form elements)
    → buf ≡ elements_bytes form elements ++ rest → AreElements form (elements_bytes form elements ++ replicate zeros 0) elements
    → AreElements form (take len buf ++ replicate zeros 0) elements
AreElements-front {form} {elements} {buf} rest {len} zeros len-is is read =
    let row = elements_bytes form elements in
    let front : take len buf ≡ row = ap (take len) is ∙ take_at row rest len (sym len-is) in
    subst (λ (b : List ℕ). AreElements form (b ++ replicate zeros 0) elements) (sym front) read
