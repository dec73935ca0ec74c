-- Other data of elements that are put, and what becomes of all elements.
use Rattle.std.proofs.Common.{◌≡◌, ◌≢◌, ℕ, Bool, true, false, ◌||◌, cond, List, [], ◌∷◌, ◌++◌, length, refl, sym, ap, ◌∙◌, arith}
use Rattle.std.specs.List.{list_any, AllByRecursion}
use Rattle.std.proofs.lemmas.Bool.{eq-eqb, eqb-true, ne_eqb, true≢false}
use Rattle.std.proofs.lemmas.List.Elements.{All-head, All-tail}
use Rattle.rtp_ext.specs.declared.form.ExtensionsForm.{ExtensionsForm}
use Rattle.rtp_ext.specs.declared.form.ExtensionsForm.TheVariants.{OneByte, TwoByte}
use Rattle.rtp_ext.specs.Elements.{Element, IsElement}
use Rattle.rtp_ext.specs.ElementsInPlace.{HasNone}
use Rattle.rtp_ext.specs.PutElement.{has_id, put_element}
use Rattle.rtp_route.specs.Routing.{put_all}
use Rattle.rtp_route.specs.Template.{with_data, HaveOwnIds}

-- the element with these data where it has the id
abbrev pub data_set : ℕ → List ℕ → Element → Element
data_set id bytes element = cond (has_id id element) (id, bytes) element

-- the elements, each of the id with these data
abbrev pub all_set : ℕ → List ℕ → List Element → List Element
all_set id bytes [] = []
all_set id bytes (element ∷ elements) = data_set id bytes element ∷ all_set id bytes elements

pub data_set-this : (id : ℕ) (bytes was : List ℕ) → data_set id bytes (id, was) ≡ (id, bytes)
data_set-this id bytes was = ap (λ (b : Bool). cond b (id, bytes) (id, was)) (eq-eqb id id refl)

pub data_set-other : (id : ℕ) (bytes : List ℕ) (element : Element) → element.0 ≢ id → data_set id bytes element ≡ element
data_set-other id bytes element other = ap (λ (b : Bool). cond b (id, bytes) element) (ne_eqb element.0 id other)

pub has_id-set : (k id : ℕ) (bytes : List ℕ) (element : Element) → has_id k (data_set id bytes element) ≡ has_id k element
has_id-set k id bytes element = by_test (has_id id element) refl
  where
    by_test : (b : Bool) → has_id id element ≡ b → has_id k (data_set id bytes element) ≡ has_id k element
    by_test true is =
        let same : element.0 ≡ id = eqb-true element.0 id is in
        ap (λ (b : Bool). has_id k (cond b (id, bytes) element)) is ∙ ap (λ (n : ℕ). has_id k (n, bytes)) (sym same)
    by_test false is = ap (λ (b : Bool). has_id k (cond b (id, bytes) element)) is

any-set : (k id : ℕ) (bytes : List ℕ) (elements : List Element) → list_any (has_id k) (all_set id bytes elements) ≡ list_any (has_id k) elements
any-set k id bytes [] = refl
any-set k id bytes (element ∷ elements) =
    ap (λ (b : Bool). b || list_any (has_id k) (all_set id bytes elements)) (has_id-set k id bytes element)
    ∙ ap (λ (b : Bool). has_id k element || b) (any-set k id bytes elements)

data_set-not : (id : ℕ) (bytes : List ℕ) (element : Element) → has_id id element ≡ false → data_set id bytes element ≡ element
data_set-not id bytes element not = ap (λ (b : Bool). cond b (id, bytes) element) not

or_false : (a b : Bool) → (a || b) ≡ false → (a ≡ false) × (b ≡ false)
or_false true b is = absurd (true≢false is)
or_false false b is = (refl, is)

all_set-not : (id : ℕ) (bytes : List ℕ) (elements : List Element) → list_any (has_id id) elements ≡ false → all_set id bytes elements ≡ elements
all_set-not id bytes [] not = refl
all_set-not id bytes (element ∷ elements) not =
    let both = or_false (has_id id element) (list_any (has_id id) elements) not in
    ap (λ (e : Element). e ∷ all_set id bytes elements) (data_set-not id bytes element both.0) ∙ ap (λ (es : List Element). element ∷ es) (all_set-not id bytes elements both.1)

-- ---- elements that are put

put-other : (new : Element) (id : ℕ) (bytes : List ℕ) (elements : List Element) → new.0 ≢ id → put_element new (all_set id bytes elements) ≡ all_set id bytes (put_element new elements)
put-other new id bytes [] other = ap (λ (e : Element). e ∷ []) (sym (data_set-other id bytes new other))
put-other new id bytes (element ∷ elements) other =
    let here : Element = data_set id bytes element in
    let set : List Element = all_set id bytes elements in
    ap (λ (b : Bool). cond b (cond (list_any (has_id new.0) set) (put_element new set) (new ∷ set)) (here ∷ put_element new set)) (has_id-set new.0 id bytes element)
    ∙ ap (λ (b : Bool). cond (has_id new.0 element) (cond b (put_element new set) (new ∷ set)) (here ∷ put_element new set)) (any-set new.0 id bytes elements)
    ∙ ap (λ (put : List Element). cond (has_id new.0 element) (cond (list_any (has_id new.0) elements) put (new ∷ set)) (here ∷ put)) (put-other new id bytes elements other)
    ∙ by_test (has_id new.0 element) (list_any (has_id new.0) elements)
  where
    by_test : (a b : Bool) → cond a (cond b (all_set id bytes (put_element new elements)) (new ∷ all_set id bytes elements)) (data_set id bytes element ∷ all_set id bytes (put_element new elements))
        ≡ all_set id bytes (cond a (cond b (put_element new elements) (new ∷ elements)) (element ∷ put_element new elements))
    by_test true true = refl
    by_test true false = ap (λ (e : Element). e ∷ all_set id bytes elements) (sym (data_set-other id bytes new other))
    by_test false b = refl

put-this : (id : ℕ) (bytes was : List ℕ) (elements : List Element) → put_element (id, bytes) elements ≡ all_set id bytes (put_element (id, was) elements)
put-this id bytes was [] = ap (λ (e : Element). e ∷ []) (sym (data_set-this id bytes was))
put-this id bytes was (element ∷ elements) =
    ap (λ (put : List Element). cond (has_id id element) (cond (list_any (has_id id) elements) put ((id, bytes) ∷ elements)) (element ∷ put)) (put-this id bytes was elements)
    ∙ by_test (has_id id element) (list_any (has_id id) elements) refl refl
  where
    by_test : (a b : Bool) → has_id id element ≡ a → list_any (has_id id) elements ≡ b
        → cond a (cond b (all_set id bytes (put_element (id, was) elements)) ((id, bytes) ∷ elements)) (element ∷ all_set id bytes (put_element (id, was) elements))
        ≡ all_set id bytes (cond a (cond b (put_element (id, was) elements) ((id, was) ∷ elements)) (element ∷ put_element (id, was) elements))
    by_test true true is any = refl
    by_test true false is any =
        ap (λ (e : Element). e ∷ elements) (sym (data_set-this id bytes was)) ∙ ap (λ (es : List Element). data_set id bytes (id, was) ∷ es) (sym (all_set-not id bytes elements any))
    by_test false b is any = ap (λ (e : Element). e ∷ all_set id bytes (put_element (id, was) elements)) (sym (data_set-not id bytes element is))

put_all-other : (news : List Element) (id : ℕ) (bytes : List ℕ) (elements : List Element) → HasNone news id → put_all news (all_set id bytes elements) ≡ all_set id bytes (put_all news elements)
put_all-other [] id bytes elements none = refl
put_all-other (new ∷ news) id bytes elements none =
    ap (put_all news) (put-other new id bytes elements (All-head (λ (e : Element). e.0 ≢ id) new news none))
    ∙ put_all-other news id bytes (put_element new elements) (All-tail (λ (e : Element). e.0 ≢ id) new news none)

-- each of these data in turn
abbrev pub sets : List Element → List (List ℕ) → List Element → List Element
sets [] contents elements = elements
sets (new ∷ news) [] elements = elements
sets (new ∷ news) (bytes ∷ contents) elements = sets news contents (all_set new.0 bytes elements)

pub put_all-data : (news : List Element) (contents : List (List ℕ)) (elements : List Element) → HaveOwnIds news → length contents ≡ length news
    → put_all (with_data news contents) elements ≡ sets news contents (put_all news elements)
put_all-data [] contents elements own long = refl
put_all-data (new ∷ news) [] elements own long = absurd (omega (arith, long))
put_all-data (new ∷ news) (bytes ∷ contents) elements own long =
    put_all-data news contents (put_element (new.0, bytes) elements) own.1 (omega (arith, long))
    ∙ ap (λ (es : List Element). sets news contents (put_all news es)) (put-this new.0 bytes new.1 elements)
    ∙ ap (sets news contents) (put_all-other news new.0 bytes (put_element new elements) own.0)

-- ---- elements of which the form can carry each

pub element-alike : (form : ExtensionsForm) (id : ℕ) (bytes was : List ℕ) → length bytes ≡ length was → IsElement form (id, was) → IsElement form (id, bytes)
element-alike OneByte id bytes was same is = (is.0, omega (arith, is.1, same), omega (arith, is.2, same), omega (arith, is.3, same))
element-alike TwoByte id bytes was same is = (is.0, is.1, omega (arith, is.2, same))

pub middle : (P : Element → Type 0) (before : List Element) (element : Element) (after : List Element) → AllByRecursion P (before ++ element ∷ after) → P element
middle P [] element after all = all.0
middle P (first ∷ before) element after all = middle P before element after all.1

pub elements-set : (form : ExtensionsForm) (id : ℕ) (bytes : List ℕ) (elements : List Element) → IsElement form (id, bytes) → AllByRecursion (IsElement form) elements
    → AllByRecursion (IsElement form) (all_set id bytes elements)
elements-set form id bytes [] is all = tt
elements-set form id bytes (element ∷ elements) is all = (either (has_id id element), elements-set form id bytes elements is all.1)
  where
    either : (b : Bool) → IsElement form (cond b (id, bytes) element)
    either true = is
    either false = all.0
