-- Places and the data that are put there.
use Rattle.std.proofs.Common.{◌≡◌, ◌≢◌, ℕ, ◌+◌, Bool, true, false, cond, List, [], ◌∷◌, ◌++◌, length, get_or, map, replicate, refl, sym, ap, subst, ◌∙◌, arith, append_assoc, length-append}
use Rattle.std.specs.Borrow.{Bor}
use Rattle.std.proofs.Math.ListN.{get_or-map}
use Rattle.std.proofs.lemmas.Grind.{flat_map-append}
use Rattle.std.proofs.lemmas.List.Elements.{All-cons, All-head, All-tail}
use Rattle.std.proofs.lemmas.Bool.{eqb-true}
use Rattle.rtp_base.specs.Overwriting.{overwritten}
use Rattle.rtp_ext.specs.declared.form.ExtensionsForm.{ExtensionsForm}
use Rattle.rtp_ext.specs.declared.form.ExtensionsForm.TheVariants.{OneByte, TwoByte}
use Rattle.rtp_ext.specs.Elements.{Element, element_bytes, elements_bytes}
use Rattle.rtp_ext.specs.ElementWriting.{element_header}
use Rattle.rtp_ext.specs.ElementsInPlace.{HasNone}
use Rattle.rtp_ext.specs.PutElement.{has_id}
use Rattle.rtp_ext.specs.WrittenBlock.{filled, padding_of}
use Rattle.rtp_ext.proofs.PlaceLemmas.{element_bytes-split, overwritten-at}
use Rattle.rtp_route.specs.declared.slots.Slot.{Slot}
use Rattle.rtp_route.specs.Template.{HaveOwnIds, data_lengths, slot_lengths, filled_in, IsSlot, AreSlots}
use Rattle.rtp_route.proofs.SetDataLemmas.{data_set, data_set-this, data_set-other, all_set, sets}

-- the data at an index are as long as the place
pub length-at : (slots : List Slot) (contents : List (Bor (List ℕ))) (index : ℕ) (slot : Slot) (bytes : Bor (List ℕ)) → length bytes.now ≡ slot.len
    → map (λ (b : Bor (List ℕ)). length b.now) contents ≡ slot_lengths slots → length (get_or contents index bytes).now ≡ (get_or slots index slot).len
length-at slots contents index slot bytes default same =
    sym (get_or-map (λ (b : Bor (List ℕ)). length b.now) contents index bytes)
    ∙ ap (λ (ns : List ℕ). get_or ns index (length bytes.now)) same
    ∙ ap (λ (d : ℕ). get_or (slot_lengths slots) index d) default
    ∙ get_or-map (λ (s : Slot). s.len) slots index slot

-- ---- elements of which one has other data

none-set : (k id : ℕ) (bytes : List ℕ) (elements : List Element) → HasNone elements k → HasNone elements id → all_set id bytes elements ≡ elements
none-set k id bytes [] none other = refl
none-set k id bytes (element ∷ elements) none other =
    ap (λ (e : Element). e ∷ all_set id bytes elements) (data_set-other id bytes element (All-head (λ (e : Element). e.0 ≢ id) element elements other))
    ∙ ap (λ (es : List Element). element ∷ es) (none-set k id bytes elements (All-tail (λ (e : Element). e.0 ≢ k) element elements none) (All-tail (λ (e : Element). e.0 ≢ id) element elements other))

all_set-append : (id : ℕ) (bytes : List ℕ) (xs ys : List Element) → all_set id bytes (xs ++ ys) ≡ all_set id bytes xs ++ all_set id bytes ys
all_set-append id bytes [] ys = refl
all_set-append id bytes (x ∷ xs) ys = ap (λ (es : List Element). data_set id bytes x ∷ es) (all_set-append id bytes xs ys)

-- the one of the id
all_set-one : (id : ℕ) (bytes was : List ℕ) (before after : List Element) → HasNone before id → HasNone after id → all_set id bytes (before ++ (id, was) ∷ after) ≡ before ++ (id, bytes) ∷ after
all_set-one id bytes was before after none_before none_after =
    all_set-append id bytes before ((id, was) ∷ after)
    ∙ ap (λ (es : List Element). es ++ data_set id bytes (id, was) ∷ all_set id bytes after) (none-set id id bytes before none_before none_before)
    ∙ ap (λ (e : Element). before ++ e ∷ all_set id bytes after) (data_set-this id bytes was)
    ∙ ap (λ (es : List Element). before ++ (id, bytes) ∷ es) (none-set id id bytes after none_after none_after)

-- ---- the bytes of elements in a row

row-around : (form : ExtensionsForm) (before after : List Element) (id : ℕ) (bytes : List ℕ)
    → elements_bytes form (before ++ (id, bytes) ∷ after) ≡ (elements_bytes form before ++ element_header form id (length bytes)) ++ (bytes ++ elements_bytes form after)
row-around form before after id bytes =
    flat_map-append (element_bytes form) before ((id, bytes) ∷ after)
    ∙ ap (λ (xs : List ℕ). elements_bytes form before ++ (xs ++ elements_bytes form after)) (element_bytes-split form id bytes)
    ∙ ap (λ (xs : List ℕ). elements_bytes form before ++ xs) (append_assoc (element_header form id (length bytes)) bytes (elements_bytes form after))
    ∙ sym (append_assoc (elements_bytes form before) (element_header form id (length bytes)) (bytes ++ elements_bytes form after))

filled-around : (form : ExtensionsForm) (front : List ℕ) (before after : List Element) (id : ℕ) (bytes : List ℕ) (padding : ℕ)
    → front ++ (elements_bytes form (before ++ (id, bytes) ∷ after) ++ replicate padding 0)
    ≡ (front ++ (elements_bytes form before ++ element_header form id (length bytes))) ++ (bytes ++ (elements_bytes form after ++ replicate padding 0))
filled-around form front before after id bytes padding =
    let head : List ℕ = elements_bytes form before ++ element_header form id (length bytes) in
    ap (λ (xs : List ℕ). front ++ (xs ++ replicate padding 0)) (row-around form before after id bytes)
    ∙ ap (λ (xs : List ℕ). front ++ xs) (append_assoc head (bytes ++ elements_bytes form after) (replicate padding 0))
    ∙ ap (λ (xs : List ℕ). front ++ (head ++ xs)) (append_assoc bytes (elements_bytes form after) (replicate padding 0))
    ∙ sym (append_assoc front head (bytes ++ (elements_bytes form after ++ replicate padding 0)))

row-length : (form : ExtensionsForm) (before after : List Element) (id : ℕ) (bytes was : List ℕ) → length bytes ≡ length was
    → length (elements_bytes form (before ++ (id, bytes) ∷ after)) ≡ length (elements_bytes form (before ++ (id, was) ∷ after))
row-length form before after id bytes was same =
    let long : (xs : List ℕ) → length (elements_bytes form (before ++ (id, xs) ∷ after))
    ≡ length (elements_bytes form before) + length (element_header form id (length xs)) + (length xs + length (elements_bytes form after)) =
    λ xs. ap length (row-around form before after id xs)
    ∙ length-append (elements_bytes form before ++ element_header form id (length xs)) (xs ++ elements_bytes form after)
    ∙ ap (λ (k : ℕ). k + length (xs ++ elements_bytes form after)) (length-append (elements_bytes form before) (element_header form id (length xs)))
    ∙ ap (λ (k : ℕ). length (elements_bytes form before) + length (element_header form id (length xs)) + k) (length-append xs (elements_bytes form after)) in
    long bytes ∙ ap (λ (k : ℕ). length (elements_bytes form before) + length (element_header form id k) + (k + length (elements_bytes form after))) same ∙ sym (long was)

-- other data at the place of an element
write-slot : (form : ExtensionsForm) (front : List ℕ) (elements : List Element) (new : Element) (slot : Slot) (bytes : List ℕ) → IsSlot form (length front) elements new slot
    → length bytes ≡ length new.1 → overwritten (front ++ filled (elements_bytes form elements)) slot.start bytes ≡ front ++ filled (elements_bytes form (all_set new.0 bytes elements))
write-slot form front elements new slot bytes is same =
    let before : List Element = is.before in
    let after : List Element = is.after in
    let was : List Element = before ++ new ∷ after in
    let now : List Element = before ++ (new.0, bytes) ∷ after in
    let padding : ℕ = padding_of (length (elements_bytes form was)) in
    let head : List ℕ = front ++ (elements_bytes form before ++ element_header form new.0 (length new.1)) in
    let set_is : all_set new.0 bytes elements ≡ now = ap (all_set new.0 bytes) is.in_order ∙ all_set-one new.0 bytes new.1 before after is.none_before is.none_after in
    let at : slot.start ≡ length head = omega (
      arith,
      is.start_is,
      length-append front (elements_bytes form before ++ element_header form new.0 (length new.1)),
      length-append (elements_bytes form before) (element_header form new.0 (length new.1)),
    ) in
    let old_bytes : front ++ filled (elements_bytes form elements) ≡ head ++ (new.1 ++ (elements_bytes form after ++ replicate padding 0)) =
    ap (λ (es : List Element). front ++ filled (elements_bytes form es)) is.in_order ∙ filled-around form front before after new.0 new.1 padding in
    let new_bytes : front ++ filled (elements_bytes form now) ≡ head ++ (bytes ++ (elements_bytes form after ++ replicate padding 0)) =
    ap (λ (k : ℕ). front ++ (elements_bytes form now ++ replicate (padding_of k) 0)) (row-length form before after new.0 bytes new.1 same)
    ∙ filled-around form front before after new.0 bytes padding
    ∙ ap (λ (k : ℕ). (front ++ (elements_bytes form before ++ element_header form new.0 k)) ++ (bytes ++ (elements_bytes form after ++ replicate padding 0))) same in
    ap (λ (b : List ℕ). overwritten b slot.start bytes) old_bytes
    ∙ overwritten-at head new.1 (elements_bytes form after ++ replicate padding 0) bytes slot.start at (sym same)
    ∙ sym new_bytes
    ∙ ap (λ (es : List Element). front ++ filled (elements_bytes form es)) (sym set_is)

-- ---- the places of other elements

-- each element of the id has so many bytes
abbrev Fit : ℕ → ℕ → List Element → Type 0
Fit id count [] = Unit {0}
Fit id count (element ∷ elements) = (element.0 ≡ id → length element.1 ≡ count) × Fit id count elements

fit-none : (id count : ℕ) (elements : List Element) → HasNone elements id → Fit id count elements
fit-none id count [] none = tt
fit-none id count (element ∷ elements) none = (
  λ is. absurd (All-head (λ (e : Element). e.0 ≢ id) element elements none is),
  fit-none id count elements (All-tail (λ (e : Element). e.0 ≢ id) element elements none),
)

fit-append : (id count : ℕ) (xs ys : List Element) → Fit id count xs → Fit id count ys → Fit id count (xs ++ ys)
fit-append id count [] ys are others = others
fit-append id count (x ∷ xs) ys are others = (are.0, fit-append id count xs ys are.1 others)

fit-front : (id count : ℕ) (xs ys : List Element) → Fit id count (xs ++ ys) → Fit id count xs
fit-front id count [] ys are = tt
fit-front id count (x ∷ xs) ys are = (are.0, fit-front id count xs ys are.1)

length-element : (form : ExtensionsForm) (id : ℕ) (bytes was : List ℕ) → length bytes ≡ length was → length (element_bytes form (id, bytes)) ≡ length (element_bytes form (id, was))
length-element OneByte id bytes was same = omega (arith, same)
length-element TwoByte id bytes was same = omega (arith, same)

length-set : (form : ExtensionsForm) (id : ℕ) (bytes : List ℕ) (elements : List Element) → Fit id (length bytes) elements
    → length (elements_bytes form (all_set id bytes elements)) ≡ length (elements_bytes form elements)
length-set form id bytes [] fit = refl
length-set form id bytes (element ∷ elements) fit =
    length-append (element_bytes form (data_set id bytes element)) (elements_bytes form (all_set id bytes elements))
    ∙ ap (λ (k : ℕ). k + length (elements_bytes form (all_set id bytes elements))) (one (has_id id element) refl)
    ∙ ap (λ (k : ℕ). length (element_bytes form element) + k) (length-set form id bytes elements fit.1)
    ∙ sym (length-append (element_bytes form element) (elements_bytes form elements))
  where
    one : (b : Bool) → has_id id element ≡ b → length (element_bytes form (data_set id bytes element)) ≡ length (element_bytes form element)
    one true is =
        let same : element.0 ≡ id = eqb-true element.0 id is in
        ap (λ (b : Bool). length (element_bytes form (cond b (id, bytes) element))) is
        ∙ length-element form id bytes element.1 (sym (fit.0 same))
        ∙ ap (λ (k : ℕ). length (element_bytes form (k, element.1))) (sym same)
    one false is = ap (λ (b : Bool). length (element_bytes form (cond b (id, bytes) element))) is

none-all_set : (k id : ℕ) (bytes : List ℕ) (elements : List Element) → HasNone elements k → HasNone (all_set id bytes elements) k
none-all_set k id bytes [] none = none
none-all_set k id bytes (element ∷ elements) none =
    All-cons (λ (e : Element). e.0 ≢ k) (data_set id bytes element) (all_set id bytes elements)
    (other (has_id id element) refl) (none-all_set k id bytes elements (All-tail (λ (e : Element). e.0 ≢ k) element elements none))
  where
    other : (b : Bool) → has_id id element ≡ b → (data_set id bytes element).0 ≢ k
    other true is =
        let same : element.0 ≡ id = eqb-true element.0 id is in
        subst (λ (b : Bool). (cond b (id, bytes) element).0 ≢ k) (sym is) (subst (λ (n : ℕ). n ≢ k) same (All-head (λ (e : Element). e.0 ≢ k) element elements none))
    other false is = subst (λ (b : Bool). (cond b (id, bytes) element).0 ≢ k) (sym is) (All-head (λ (e : Element). e.0 ≢ k) element elements none)

slot-stays : (form : ExtensionsForm) (start : ℕ) (elements : List Element) (new other : Element) (slot slot_of_other : Slot) (bytes : List ℕ) → IsSlot form start elements new slot
    → length bytes ≡ length new.1 → other.0 ≢ new.0 → IsSlot form start elements other slot_of_other → IsSlot form start (all_set new.0 bytes elements) other slot_of_other
slot-stays form start elements new other slot slot_of_other bytes is same apart there =
    let all : Fit new.0 (length bytes) elements =
    subst (Fit new.0 (length bytes)) (sym is.in_order)
    (fit-append new.0 (length bytes) is.before (new ∷ is.after) (fit-none new.0 (length bytes) is.before is.none_before) (λ _. sym same, fit-none new.0 (length bytes) is.after is.none_after)) in
    let front : Fit new.0 (length bytes) there.before = fit-front new.0 (length bytes) there.before (other ∷ there.after) (subst (Fit new.0 (length bytes)) there.in_order all) in
    record {
      before = all_set new.0 bytes there.before;
      after = all_set new.0 bytes there.after;
      in_order = ap (all_set new.0 bytes) there.in_order
          ∙ all_set-append new.0 bytes there.before (other ∷ there.after)
          ∙ ap (λ (e : Element). all_set new.0 bytes there.before ++ e ∷ all_set new.0 bytes there.after) (data_set-other new.0 bytes other apart);
      none_before = none-all_set other.0 new.0 bytes there.before there.none_before;
      none_after = none-all_set other.0 new.0 bytes there.after there.none_after;
      start_is = there.start_is ∙ ap (λ (k : ℕ). start + k + length (element_header form other.0 (length other.1))) (sym (length-set form new.0 bytes there.before front));
      len_is = there.len_is;
    }

pub slots-stay : (form : ExtensionsForm) (start : ℕ) (elements : List Element) (new : Element) (slot : Slot) (bytes : List ℕ) (news : List Element) (slots : List Slot) → IsSlot form start elements new slot
    → length bytes ≡ length new.1 → HasNone news new.0 → AreSlots form start elements news slots → AreSlots form start (all_set new.0 bytes elements) news slots
slots-stay form start elements new slot bytes [] slots is same none are = are
slots-stay form start elements new slot bytes (other ∷ news) [] is same none are = are
slots-stay form start elements new slot bytes (other ∷ news) (first ∷ slots) is same none are = (
  slot-stays form start elements new other slot first bytes is same (All-head (λ (e : Element). e.0 ≢ new.0) other news none) are.0,
  slots-stay form start elements new slot bytes news slots is same (All-tail (λ (e : Element). e.0 ≢ new.0) other news none) are.1,
)

-- all data at their places
pub write-slots : (form : ExtensionsForm) (front : List ℕ) (elements news : List Element) (slots : List Slot) (contents : List (List ℕ)) → AreSlots form (length front) elements news slots
    → HaveOwnIds news → map length contents ≡ data_lengths news
    → filled_in slots contents (front ++ filled (elements_bytes form elements)) ≡ front ++ filled (elements_bytes form (sets news contents elements))
write-slots form front elements [] [] contents are own same = refl
write-slots form front elements [] (slot ∷ slots) contents are own same = absurd cc
write-slots form front elements (new ∷ news) [] contents are own same = absurd are
write-slots form front elements (new ∷ news) (slot ∷ slots) [] are own same = absurd cc
write-slots form front elements (new ∷ news) (slot ∷ slots) (bytes ∷ contents) are own same =
    let here : length bytes ≡ length new.1 = cc in
    let rest : map length contents ≡ data_lengths news = cc in
    ap (filled_in slots contents) (write-slot form front elements new slot bytes are.0 here)
    ∙ write-slots form front (all_set new.0 bytes elements) news slots contents (slots-stay form (length front) elements new slot bytes news slots are.0 here own.0 are.1) own.1 rest

-- how many bytes the elements take

set-row_length : (form : ExtensionsForm) (start : ℕ) (elements : List Element) (new : Element) (slot : Slot) (bytes : List ℕ) → IsSlot form start elements new slot → length bytes ≡ length new.1
    → length (elements_bytes form (all_set new.0 bytes elements)) ≡ length (elements_bytes form elements)
set-row_length form start elements new slot bytes is same =
    let set_is : all_set new.0 bytes elements ≡ is.before ++ (new.0, bytes) ∷ is.after =
    ap (all_set new.0 bytes) is.in_order ∙ all_set-one new.0 bytes new.1 is.before is.after is.none_before is.none_after in
    ap (λ (es : List Element). length (elements_bytes form es)) set_is
    ∙ row-length form is.before is.after new.0 bytes new.1 same
    ∙ ap (λ (es : List Element). length (elements_bytes form es)) (sym is.in_order)

sets-row_length : (form : ExtensionsForm) (start : ℕ) (elements news : List Element) (slots : List Slot) (contents : List (List ℕ)) → AreSlots form start elements news slots → HaveOwnIds news
    → map length contents ≡ data_lengths news → length (elements_bytes form (sets news contents elements)) ≡ length (elements_bytes form elements)
sets-row_length form start elements [] slots contents are own same = refl
sets-row_length form start elements (new ∷ news) slots [] are own same = refl
sets-row_length form start elements (new ∷ news) [] (bytes ∷ contents) are own same = absurd are
sets-row_length form start elements (new ∷ news) (slot ∷ slots) (bytes ∷ contents) are own same =
    let here : length bytes ≡ length new.1 = cc in
    let rest : map length contents ≡ data_lengths news = cc in
    sets-row_length form start (all_set new.0 bytes elements) news slots contents (slots-stay form start elements new slot bytes news slots are.0 here own.0 are.1) own.1 rest
    ∙ set-row_length form start elements new slot bytes are.0 here

pub filled-sets_length : (form : ExtensionsForm) (start : ℕ) (elements news : List Element) (slots : List Slot) (contents : List (List ℕ)) → AreSlots form start elements news slots → HaveOwnIds news
    → map length contents ≡ data_lengths news → length (filled (elements_bytes form (sets news contents elements))) ≡ length (filled (elements_bytes form elements))
filled-sets_length form start elements news slots contents are own same =
    length-append (elements_bytes form (sets news contents elements)) (replicate (padding_of (length (elements_bytes form (sets news contents elements)))) 0)
    ∙ ap (λ (k : ℕ). k + length {A = ℕ} (replicate (padding_of k) 0)) (sets-row_length form start elements news slots contents are own same)
    ∙ sym (length-append (elements_bytes form elements) (replicate (padding_of (length (elements_bytes form elements))) 0))

pub slots-lengths : (form : ExtensionsForm) (start : ℕ) (elements news : List Element) (slots : List Slot) → AreSlots form start elements news slots → slot_lengths slots ≡ data_lengths news
slots-lengths form start elements [] [] are = refl
slots-lengths form start elements [] (slot ∷ slots) are = absurd cc
slots-lengths form start elements (new ∷ news) [] are = absurd are
slots-lengths form start elements (new ∷ news) (slot ∷ slots) are =
    ap (λ (k : ℕ). k ∷ slot_lengths slots) are.0.len_is ∙ ap (λ (ks : List ℕ). length new.1 ∷ ks) (slots-lengths form start elements news slots are.1)
