-- Elements that stay in a body that is made anew, and those that are put among them.
use Rattle.rtp_ext.proofs.Common.{◌≡◌, ◌≢◌, ℕ, ◌+◌, ◌-◌, ◌≤◌, Bool, true, false, not, ◌||◌, cond, List, [], ◌∷◌, ◌++◌, length, take, drop, replicate, Option, Some, None, length-append, arith, refl, sym, ap, ◌∙◌, subst, AllByRecursion, filter_map, list_any, eq-eqb, ne_eqb, false≢true, append-nil, length-replicate, drop_all, filter-append, All-from_recursion, recursion_from_All, ExtensionsForm, Element, IsElement, IsPiece, element_bytes, elements_bytes, AreElements, IsWritable, HasNone, has_id, without, others, put_among, row_to, IsSole}
use Rattle.rtp_base.specs.Overwriting.{overwritten}
use Rattle.rtp_ext.proofs.PieceLemmas.{AllByRecursion-append}
use Rattle.rtp_ext.proofs.PutLemmas.{without-none}
use Rattle.rtp_ext.proofs.GatheredLemmas.{elements_bytes-append, without-weaker, others-twice}

-- each element of another id than 0 may be written in the form that it was read in
pub writable_without : (form : ExtensionsForm) (elements : List Element) → AllByRecursion (IsElement form) elements → AllByRecursion (IsWritable form) (without 0 elements)
writable_without form elements all = without-weaker (IsElement form) (IsWritable form) 0 elements (λ element other is. (omega arith, is)) all

-- ---- elements that were read

are_read : (form : ExtensionsForm) (pieces : List (Option Element)) → AllByRecursion (IsPiece form) pieces → AllByRecursion (IsElement form) (filter_map (λ piece. piece) pieces)
are_read form [] all = tt
are_read form (None ∷ pieces) all = are_read form pieces all.1
are_read form (Some element ∷ pieces) all = (all.0, are_read form pieces all.1)

pub AreElements-each : (form : ExtensionsForm) (body : List ℕ) (elements : List Element) → AreElements form body elements → AllByRecursion (IsElement form) elements
AreElements-each form body elements are = subst (AllByRecursion (IsElement form)) (sym are.elements_are) (are_read form are.pieces are.are_pieces)

pub without-each : (P : Element → Type 0) (id : ℕ) (elements : List Element) → AllByRecursion P elements → AllByRecursion P (without id elements)
without-each P id elements all = without-weaker P P id elements (λ element other is. is) all

-- ---- elements of two ids left out

without-twice : (a b : ℕ) (elements : List Element) → without a (without b elements) ≡ without b (without a elements)
without-twice a b [] = refl
without-twice a b (element ∷ elements) = by_tests (has_id a element) (has_id b element) refl refl (without-twice a b elements)
  where
    by_tests : (x y : Bool) → has_id a element ≡ x → has_id b element ≡ y → without a (without b elements) ≡ without b (without a elements)
        → without a (cond (not (has_id b element)) (element ∷ without b elements) (without b elements))
        ≡ without b (cond (not (has_id a element)) (element ∷ without a elements) (without a elements))
    by_tests true true x-is y-is rest =
        ap (λ (t : Bool). without a (cond (not t) (element ∷ without b elements) (without b elements))) y-is
        ∙ (rest ∙ ap (λ (t : Bool). without b (cond (not t) (element ∷ without a elements) (without a elements))) (sym x-is))
    by_tests true false x-is y-is rest =
        ap (λ (t : Bool). without a (cond (not t) (element ∷ without b elements) (without b elements))) y-is
        ∙ (ap (λ (t : Bool). cond (not t) (element ∷ without a (without b elements)) (without a (without b elements))) x-is
        ∙ (rest ∙ ap (λ (t : Bool). without b (cond (not t) (element ∷ without a elements) (without a elements))) (sym x-is)))
    by_tests false true x-is y-is rest =
        ap (λ (t : Bool). without a (cond (not t) (element ∷ without b elements) (without b elements))) y-is
        ∙ (rest ∙ (ap (λ (t : Bool). cond (not t) (element ∷ without b (without a elements)) (without b (without a elements))) (sym y-is)
        ∙ ap (λ (t : Bool). without b (cond (not t) (element ∷ without a elements) (without a elements))) (sym x-is)))
    by_tests false false x-is y-is rest =
        ap (λ (t : Bool). without a (cond (not t) (element ∷ without b elements) (without b elements))) y-is
        ∙ (ap (λ (t : Bool). cond (not t) (element ∷ without a (without b elements)) (without a (without b elements))) x-is
        ∙ (ap (λ es. element ∷ es) rest ∙ (ap (λ (t : Bool). cond (not t) (element ∷ without b (without a elements)) (without b (without a elements))) (sym y-is)
        ∙ ap (λ (t : Bool). without b (cond (not t) (element ∷ without a elements) (without a elements))) (sym x-is))))

pub without-still_none : (id : ℕ) (elements : List Element) → HasNone elements id → HasNone (without 0 elements) id
without-still_none id elements none =
    All-from_recursion (λ (e : Element). e.0 ≢ id) (without 0 elements) (without-each (λ (e : Element). e.0 ≢ id) 0 elements (recursion_from_All (λ (e : Element). e.0 ≢ id) elements none))

pub without-around : (id : ℕ) (before after : List Element) (was : List ℕ) → 1 ≤ id → without 0 (before ++ (id, was) ∷ after) ≡ without 0 before ++ (id, was) ∷ without 0 after
without-around id before after was above =
    let other : id ≢ 0 = omega arith in
    filter-append (λ (e : Element). not (has_id 0 e)) before ((id, was) ∷ after)
    ∙ ap (λ (b : Bool). without 0 before ++ cond (not b) ((id, was) ∷ without 0 after) (without 0 after)) (ne_eqb id 0 other)

-- ---- what is put among them

-- none of the id 0 is left
pub no_zero_left : (elements : List Element) → AllByRecursion (λ (e : Element). e.0 ≢ 0) (without 0 elements)
no_zero_left [] = tt
no_zero_left (element ∷ elements) = by_test (has_id 0 element) refl (no_zero_left elements)
  where
    by_test : (b : Bool) → has_id 0 element ≡ b → AllByRecursion (λ (e : Element). e.0 ≢ 0) (without 0 elements)
        → AllByRecursion (λ (e : Element). e.0 ≢ 0) (cond (not b) (element ∷ without 0 elements) (without 0 elements))
    by_test true is rest = rest
    by_test false is rest = (λ same. false≢true (sym is ∙ eq-eqb element.0 0 same), rest)

without-absent : (id : ℕ) (elements : List Element) → list_any (has_id id) elements ≡ false → without id elements ≡ elements
without-absent id [] none = refl
without-absent id (element ∷ elements) none = by_test (has_id id element) none (without-absent id elements)
  where
    by_test : (b : Bool) → (b || list_any (has_id id) elements) ≡ false → (list_any (has_id id) elements ≡ false → without id elements ≡ elements)
        → cond (not b) (element ∷ without id elements) (without id elements) ≡ element ∷ elements
    by_test true is rest = absurd (false≢true (sym is))
    by_test false is rest = ap (λ es. element ∷ es) (rest is)

pub all-parts : (P : Element → Type 0) (xs ys : List Element) → AllByRecursion P (xs ++ ys) → AllByRecursion P xs × AllByRecursion P ys
all-parts P [] ys all = (tt, all)
all-parts P (x ∷ xs) ys all = let rest = all-parts P xs ys all.1 in ((all.0, rest.0), rest.1)

-- those that stay, and what comes, all have a property exactly where they have it once it is put among them
pub among-each : (P : Element → Type 0) (id : ℕ) (comes elements : List Element) → AllByRecursion P (without id elements) → AllByRecursion P comes → AllByRecursion P (put_among id comes elements)
among-each P id comes [] all is = is
among-each P id comes (element ∷ elements) all is = by_tests (has_id id element) (list_any (has_id id) elements) refl all (λ rest. among-each P id comes elements rest is)
  where
    by_tests : (a b : Bool) → list_any (has_id id) elements ≡ b → AllByRecursion P (cond (not a) (element ∷ without id elements) (without id elements))
        → (AllByRecursion P (without id elements) → AllByRecursion P (put_among id comes elements))
        → AllByRecursion P (cond a (cond b (put_among id comes elements) (comes ++ elements)) (element ∷ put_among id comes elements))
    by_tests true true any all rest = rest all
    by_tests true false any all rest = AllByRecursion-append P comes elements is (subst (AllByRecursion P) (without-absent id elements any) all)
    by_tests false b any all rest = (all.0, rest all.1)

pub among-stays : (P : Element → Type 0) (id : ℕ) (comes elements : List Element) → AllByRecursion P (put_among id comes elements) → AllByRecursion P (without id elements)
among-stays P id comes [] all = tt
among-stays P id comes (element ∷ elements) all = by_tests (has_id id element) (list_any (has_id id) elements) refl all (among-stays P id comes elements)
  where
    by_tests : (a b : Bool) → list_any (has_id id) elements ≡ b
        → AllByRecursion P (cond a (cond b (put_among id comes elements) (comes ++ elements)) (element ∷ put_among id comes elements))
        → (AllByRecursion P (put_among id comes elements) → AllByRecursion P (without id elements))
        → AllByRecursion P (cond (not a) (element ∷ without id elements) (without id elements))
    by_tests true true any all rest = rest all
    by_tests true false any all rest = subst (AllByRecursion P) (sym (without-absent id elements any)) (all-parts P comes elements all).1
    by_tests false b any all rest = (all.0, rest all.1)

pub length-both : (form : ExtensionsForm) (xs ys : List Element) → length (elements_bytes form (xs ++ ys)) ≡ length (elements_bytes form xs) + length (elements_bytes form ys)
length-both form xs ys = ap length (elements_bytes-append form xs ys) ∙ length-append (elements_bytes form xs) (elements_bytes form ys)

-- and how long they are
pub length-among : (form : ExtensionsForm) (id : ℕ) (comes elements : List Element)
    → length (elements_bytes form (put_among id comes elements)) ≡ length (elements_bytes form (without id elements)) + length (elements_bytes form comes)
length-among form id comes [] = omega arith
length-among form id comes (element ∷ elements) = by_tests (has_id id element) (list_any (has_id id) elements) refl (length-among form id comes elements)
  where
    by_tests : (a b : Bool) → list_any (has_id id) elements ≡ b
        → length (elements_bytes form (put_among id comes elements)) ≡ length (elements_bytes form (without id elements)) + length (elements_bytes form comes)
        → length (elements_bytes form (cond a (cond b (put_among id comes elements) (comes ++ elements)) (element ∷ put_among id comes elements)))
        ≡ length (elements_bytes form (cond (not a) (element ∷ without id elements) (without id elements))) + length (elements_bytes form comes)
    by_tests true true any rest = rest
    by_tests true false any rest = omega (arith, length-both form comes elements, ap (λ es. length (elements_bytes form es)) (without-absent id elements any))
    by_tests false b any rest =
        omega (
          arith,
          rest,
          length-append (element_bytes form element) (elements_bytes form (put_among id comes elements)),
          length-append (element_bytes form element) (elements_bytes form (without id elements)),
        )

-- the elements of other ids, but those of the id 0
pub others-without : (id : ℕ) (elements : List Element) → without id (without 0 elements) ≡ others id elements
others-without id elements = without-twice id 0 elements ∙ sym (others-twice id elements)

-- where it can be put in place, no other element has the id 0
pub sole-no_zero : (id : ℕ) (bytes : List ℕ) (elements : List Element) → 1 ≤ id → IsSole elements (id, bytes) → without 0 elements ≡ elements
sole-no_zero id bytes elements above sole =
    ap (without 0) sole.in_order
    ∙ (without-around id sole.before sole.after sole.was above
    ∙ (ap (λ es. es ++ (id, sole.was) ∷ without 0 sole.after) (without-none 0 sole.before sole.no_zero_before)
    ∙ (ap (λ es. sole.before ++ (id, sole.was) ∷ es) (without-none 0 sole.after sole.no_zero_after) ∙ sym sole.in_order)))

-- zeros to the end
pub row_to-zeros : (form : ExtensionsForm) (elements : List Element) (body : List ℕ) {len n : ℕ} → length body ≡ n → take len body ≡ elements_bytes form elements
    → len ≡ length (elements_bytes form elements) → len ≤ n → overwritten body len (replicate (length body - len) 0) ≡ row_to form elements n
unfolding overwritten
row_to-zeros form elements body {len} {n} long row_is len_is fits =
    let zeros : List ℕ = replicate (length body - len) 0 in
    let none : drop (len + length zeros) body ≡ [] = drop_all (len + length zeros) body (omega (arith, length-replicate {A = ℕ} (length body - len) 0)) in
    let left : length body - len ≡ n - length (elements_bytes form elements) = omega arith in
    ap (λ b. take len body ++ (zeros ++ b)) none
    ∙ (ap (λ b. take len body ++ b) (append-nil zeros) ∙ (ap (λ b. b ++ zeros) row_is
    ∙ ap (λ (k : ℕ). elements_bytes form elements ++ replicate k 0) left))
