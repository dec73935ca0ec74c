-- The form that serves for elements or alone is allowed, and the room that they take in it.
use Rattle.rtp_ext.proofs.Common.{◌≡◌, ℕ, zero, suc, ◌+◌, ◌-◌, ◌≤◌, Bool, true, false, List, [], ◌∷◌, Option, None, Some, length, refl, sym, ap, ◌∙◌, subst, arith, inl, inr, length-append, Any, ◌&&◌, nat_le, if◌then◌else◌, slice_get, AllByRecursion, list_all, unwrap_or, and_parts, leb-true, le-leb, slice_get_within, get_or_from_slice_get, ExtensionsForm, OneByte, TwoByte, Element, element_bytes, elements_bytes, IsWritable, IsUnwritable, AreWritableIn, AreNotWritableIn, unwritable, short_room, serves_one_byte, form_for, form_given}

-- an element that the one-byte form can carry
pub IsWritable-one : (element : Element) → serves_one_byte element ≡ true → IsWritable OneByte element
IsWritable-one element serves =
    let halves = and_parts (nat_le 1 element.0 && nat_le element.0 14) (nat_le 1 (length element.1) && nat_le (length element.1) 16) serves in
    let id = and_parts (nat_le 1 element.0) (nat_le element.0 14) halves.0 in
    let len = and_parts (nat_le 1 (length element.1)) (nat_le (length element.1) 16) halves.1 in
    let above = leb-true 1 element.0 id.0 in
    (above, (leb-true element.0 14 id.1, leb-true 1 (length element.1) len.0, leb-true (length element.1) 16 len.1, omega arith))

AllByRecursion-one : (elements : List Element) → list_all serves_one_byte elements ≡ true → AllByRecursion (IsWritable OneByte) elements
AllByRecursion-one [] serves = tt
AllByRecursion-one (element ∷ elements) serves =
    let parts = and_parts (serves_one_byte element) (list_all serves_one_byte elements) serves in
    (IsWritable-one element parts.0, AllByRecursion-one elements parts.1)

-- the form that serves for elements can carry each
AllByRecursion-serving : (elements : List Element) → AllByRecursion (IsWritable TwoByte) elements → AllByRecursion (IsWritable (form_for elements)) elements
AllByRecursion-serving elements all = by_form (list_all serves_one_byte elements) refl
  where
    by_form : (serves : Bool) → list_all serves_one_byte elements ≡ serves → AllByRecursion (IsWritable (if serves then OneByte else TwoByte)) elements
    by_form true is = AllByRecursion-one elements is
    by_form false is = all

-- an element that neither form can carry is in neither
IsWritable-not : (form : ExtensionsForm) (element : Element) → IsWritable form element → IsUnwritable element → ⊥
IsWritable-not form element is (inl none) = let above = is.0 in absurd (omega arith)
IsWritable-not OneByte element is (inr long) = let few = is.1.2 in absurd (omega arith)
IsWritable-not TwoByte element is (inr long) = let few = is.1.2 in absurd (omega arith)

AllByRecursion-not : (form : ExtensionsForm) (elements : List Element) → AllByRecursion (IsWritable form) elements → Any (λ element. IsWritable form element → ⊥) elements → ⊥
AllByRecursion-not form [] all (k, x, within, is, bad) = absurd (omega arith)
AllByRecursion-not form (element ∷ elements) all (zero, x, within, is, bad) = bad (subst (IsWritable form) is all.0)
AllByRecursion-not form (element ∷ elements) all (suc k, x, within, is, bad) = AllByRecursion-not form elements all.1 (k, x, omega arith, is, bad)

-- that they fit rules out each refusal
pub AreNotWritableIn-not : (elements : List Element) (room : ℕ) (form : ExtensionsForm) → AreWritableIn form elements room → AreNotWritableIn form elements room → ⊥
AreNotWritableIn-not elements room form fit (unwritable any) = AllByRecursion-not form elements fit.writable any
AreNotWritableIn-not elements room form fit (short_room short) = let fits = fit.bytes_fit in omega arith

-- ---- the forms that are allowed

-- the form that elements begin with, and the one that carries the most
abbrev pub least : Option ExtensionsForm → ExtensionsForm
least allowed = unwrap_or allowed OneByte

abbrev pub widest : Option ExtensionsForm → ExtensionsForm
widest allowed = unwrap_or allowed TwoByte

-- what the widest form can't carry isn't carried by the form that is given
IsWritable-widest : (allowed : Option ExtensionsForm) {form : ExtensionsForm} (elements : List Element) (element : Element) → form ≡ widest allowed
    → (IsWritable form element → ⊥) → (form ≡ TwoByte → IsUnwritable element) → IsWritable (form_given allowed elements) element → ⊥
IsWritable-widest None elements element is bad neither carried = IsWritable-not (form_for elements) element carried (neither is)
IsWritable-widest (Some only) elements element is bad neither carried = bad (subst (λ (f : ExtensionsForm). IsWritable f element) (sym is) carried)

-- one of the elements, where the widest form can't carry it
pub AreNotWritableIn-one : (allowed : Option ExtensionsForm) {form : ExtensionsForm} (elements : List Element) (i : ℕ) (element : Element) (room : ℕ)
    → slice_get elements i ≡ Some element → form ≡ widest allowed → (IsWritable form element → ⊥) → (form ≡ TwoByte → IsUnwritable element)
    → AreNotWritableIn (form_given allowed elements) elements room
AreNotWritableIn-one allowed elements i element room here is bad neither = unwritable (
  i,
  element,
  slice_get_within elements i element here,
  get_or_from_slice_get elements i element element here,
  IsWritable-widest allowed elements element is bad neither,
)

AllByRecursion-given : (allowed : Option ExtensionsForm) (elements : List Element) → AllByRecursion (IsWritable (widest allowed)) elements
    → AllByRecursion (IsWritable (form_given allowed elements)) elements
AllByRecursion-given None elements all = AllByRecursion-serving elements all
AllByRecursion-given (Some form) elements all = all

serves-one : (element : Element) → IsWritable OneByte element → serves_one_byte element ≡ true
serves-one element is =
    rw (le-leb 1 element.0 is.0, le-leb element.0 14 is.1.0, le-leb 1 (length element.1) is.1.1, le-leb (length element.1) 16 is.1.2) refl

serves-all : (elements : List Element) → AllByRecursion (IsWritable OneByte) elements → list_all serves_one_byte elements ≡ true
serves-all [] all = refl
serves-all (element ∷ elements) all = rw (serves-one element all.0, serves-all elements all.1) refl

-- ---- how long they are

pub length-two : (elements : List Element) → length (elements_bytes TwoByte elements) ≡ length (elements_bytes OneByte elements) + length elements
length-two [] = refl
length-two (element ∷ elements) =
    omega (
      arith,
      length-append (element_bytes TwoByte element) (elements_bytes TwoByte elements),
      length-append (element_bytes OneByte element) (elements_bytes OneByte elements),
      length-two elements,
    )

length-one-le : (form : ExtensionsForm) (elements : List Element) → length (elements_bytes OneByte elements) ≤ length (elements_bytes form elements)
length-one-le OneByte elements = omega arith
length-one-le TwoByte elements = omega (arith, length-two elements)

-- ---- element by element

-- the form for the elements where this one serves for those that are passed
abbrev pub serving : ExtensionsForm → List Element → ExtensionsForm
serving form left = if list_all serves_one_byte left then form else TwoByte

serving-more : (form : ExtensionsForm) (element : Element) (more : List Element)
    → serving form (element ∷ more) ≡ serving (if serves_one_byte element then form else TwoByte) more
serving-more form element more = by_test (serves_one_byte element) (list_all serves_one_byte more)
  where
    by_test : (here others : Bool) → (if (here && others) then form else TwoByte) ≡ (if others then (if here then form else TwoByte) else TwoByte)
    by_test true others = refl
    by_test false true = refl
    by_test false false = refl

-- where the elements begin with the least form, the form that is given serves
serving-given : (allowed : Option ExtensionsForm) (elements : List Element) → AllByRecursion (IsWritable (widest allowed)) elements
    → serving (least allowed) elements ≡ form_given allowed elements
serving-given None elements all = refl
serving-given (Some OneByte) elements all = ap (λ (serves : Bool). if serves then OneByte else TwoByte) (serves-all elements all)
serving-given (Some TwoByte) elements all = by_test (list_all serves_one_byte elements)
  where
    by_test : (serves : Bool) → (if serves then TwoByte else TwoByte) ≡ TwoByte
    by_test true = refl
    by_test false = refl

-- the elements that are passed are counted, and those that are left are still to be
pub record AreCounted (allowed : Option ExtensionsForm) (elements left : List Element) (form : ExtensionsForm) (room rest : ℕ) : Type 0 where
  pub form_is : serving (least allowed) elements ≡ serving form left
  pub bytes : rest + length (elements_bytes OneByte elements) ≡ room + length (elements_bytes OneByte left)
  pub writable : AllByRecursion (IsWritable (widest allowed)) left → AllByRecursion (IsWritable (widest allowed)) elements
  pub within : rest ≤ room

pub AreCounted-step : {allowed : Option ExtensionsForm} {elements left : List Element} (more : List Element) (element : Element) {form next : ExtensionsForm} {room rest rest' : ℕ} → left ≡ element ∷ more
    → IsWritable (widest allowed) element → next ≡ (if serves_one_byte element then form else TwoByte) → 1 + length element.1 ≤ rest → rest' ≡ rest - (1 + length element.1)
    → AreCounted allowed elements left form room rest → AreCounted allowed elements more next room rest'
AreCounted-step {allowed} {left} more element {form} split writable next-is fits rest-is before =
    let long : length (elements_bytes OneByte left) ≡ length (element_bytes OneByte element) + length (elements_bytes OneByte more) =
    ap (λ es. length (elements_bytes OneByte es)) split ∙ length-append (element_bytes OneByte element) (elements_bytes OneByte more) in
    record {
      form_is = before.form_is ∙ ap (serving form) split ∙ serving-more form element more ∙ ap (λ (f : ExtensionsForm). serving f more) (sym next-is);
      bytes = omega (arith, before.bytes, before.within, long);
      writable = λ all. before.writable (subst (AllByRecursion (IsWritable (widest allowed))) (sym split) (writable, all));
      within = omega (arith, before.within);
    }

-- no room for the next one
pub AreCounted-short : {allowed : Option ExtensionsForm} {elements left : List Element} (more : List Element) (element : Element) {form : ExtensionsForm} {room rest : ℕ} → left ≡ element ∷ more
    → (1 + length element.1 ≤ rest → ⊥) → AreCounted allowed elements left form room rest → AreNotWritableIn (form_given allowed elements) elements room
AreCounted-short {allowed} {elements} {left} more element split short before =
    let long : length (elements_bytes OneByte left) ≡ length (element_bytes OneByte element) + length (elements_bytes OneByte more) =
    ap (λ es. length (elements_bytes OneByte es)) split ∙ length-append (element_bytes OneByte element) (elements_bytes OneByte more) in
    short_room (omega (arith, before.bytes, before.within, long, length-one-le (form_given allowed elements) elements, short))

-- all are counted: the form is the one that is given, and can carry each
counted : (allowed : Option ExtensionsForm) (elements left : List Element) (form : ExtensionsForm) (room rest : ℕ) → left ≡ [] → AreCounted allowed elements left form room rest
    → (form ≡ form_given allowed elements) × AllByRecursion (IsWritable (form_given allowed elements)) elements
counted allowed elements left form room rest none are =
    let all : AllByRecursion (IsWritable (widest allowed)) elements = are.writable (subst (AllByRecursion (IsWritable (widest allowed))) (sym none) tt) in (
      sym (are.form_is ∙ ap (serving form) none) ∙ serving-given allowed elements all,
      AllByRecursion-given allowed elements all,
    )

-- they fit where there is room for longer headers too
pub AreCounted-fit : {allowed : Option ExtensionsForm} {elements left : List Element} {form : ExtensionsForm} {room rest : ℕ} (more : ℕ) → left ≡ []
    → AreCounted allowed elements left form room rest → length (elements_bytes form elements) ≡ length (elements_bytes OneByte elements) + more → more ≤ rest
    → (form ≡ form_given allowed elements) × AreWritableIn form elements room
AreCounted-fit {allowed} {elements} {left} {form} {room} {rest} more none are longer fits =
    let all = counted allowed elements left form room rest none are in
    let bytes = are.bytes ∙ ap (λ (es : List Element). room + length (elements_bytes OneByte es)) none in (
      all.0,
      record {
        writable = subst (λ (f : ExtensionsForm). AllByRecursion (IsWritable f) elements) (sym all.0) all.1;
        bytes_fit = omega (arith, bytes);
      },
    )

-- and not where there is none
pub AreCounted-longer : {allowed : Option ExtensionsForm} {elements left : List Element} {form : ExtensionsForm} {room rest : ℕ} (more : ℕ) → left ≡ []
    → AreCounted allowed elements left form room rest → length (elements_bytes form elements) ≡ length (elements_bytes OneByte elements) + more → (more ≤ rest → ⊥)
    → AreNotWritableIn (form_given allowed elements) elements room
AreCounted-longer {allowed} {elements} {left} {form} {room} {rest} more none are longer short =
    let all = counted allowed elements left form room rest none are in
    let bytes = are.bytes ∙ ap (λ (es : List Element). room + length (elements_bytes OneByte es)) none in
    short_room (omega (arith, bytes, short, ap (λ (f : ExtensionsForm). length (elements_bytes f elements)) all.0))
