-- An element of a group's block, as it is written, and its place.
use Rattle.std.proofs.Common.{◌≡◌, ◌≢◌, ℕ, zero, suc, ◌+◌, ◌-◌, ◌%◌, ◌<◌, ◌≤◌, inl, inr, List, [], ◌∷◌, ◌++◌, length, take, drop, get_or, set, replicate, Option, Some, None, IfSome, All, refl, sym, ap, subst, ◌∙◌, arith, append_assoc, append-nil, length-append, length-take-le, take_at, drop_at}
use Rattle.std.specs.List.{AllByRecursion}
use Rattle.std.proofs.lemmas.List.{length-replicate}
use Rattle.std.proofs.lemmas.List.Elements.{All-nil, All-cons, All-head, All-tail, All-push}
use Rattle.rtp_base.specs.Overwriting.{overwritten}
use Rattle.rtp_base.proofs.OverwritingLemmas.{overwritten-overwritten, overwritten-nil}
use Rattle.rtp_ext.specs.declared.form.ExtensionsForm.{ExtensionsForm}
use Rattle.rtp_ext.specs.declared.form.ExtensionsForm.TheVariants.{OneByte, TwoByte}
use Rattle.rtp_ext.specs.Elements.{Element, IsElement, element_bytes, elements_bytes, AreElements}
use Rattle.rtp_ext.specs.ElementWriting.{element_header}
use Rattle.rtp_ext.specs.ElementsInARow.{IsWritable}
use Rattle.rtp_ext.specs.ElementsInPlace.{HasNone}
use Rattle.rtp_ext.specs.WrittenBlock.{filled, padding_of}
use Rattle.rtp_ext.proofs.GatheredLemmas.{elements_bytes-append}
use Rattle.rtp_route.specs.declared.slots.Slot.{Slot}
use Rattle.rtp_route.specs.Template.{HaveOwnIds, HasOnly, IsSlot, AreSlots}
use Rattle.rtp_route.specs.Walk.{IsPlaced, ArePlaced, AreWritten}
use Rattle.rtp_route.proofs.OnlyLemmas.{filled-elements, filter-none}

abbrev pub OfOther : ℕ → Element → Type 0
OfOther id element = element.0 ≢ id

-- ---- an element at an index

pub at-index : (P : Element → Type 0) (news : List Element) (index : ℕ) (new : Element) (rest : List Element) → All P news → drop index news ≡ new ∷ rest → P new
at-index P [] zero new rest all is = absurd cc
at-index P [] (suc index) new rest all is = absurd cc
at-index P (first ∷ news) zero new rest all is = let here : first ≡ new = cc in subst P here (All-head P first news all)
at-index P (first ∷ news) (suc index) new rest all is = at-index P news index new rest (All-tail P first news all) is

-- ---- the places

pub placed-at : (form : ExtensionsForm) (start : ℕ) (written news : List Element) (slots : List Slot) (index : ℕ) (new : Element) (rest : List Element) (slot : Slot)
    → ArePlaced form start written news slots → drop index news ≡ new ∷ rest → IsPlaced form start written new (get_or slots index slot)
placed-at form start written [] slots zero new rest slot are is = absurd cc
placed-at form start written [] slots (suc index) new rest slot are is = absurd cc
placed-at form start written (first ∷ news) [] index new rest slot are is = absurd are
placed-at form start written (first ∷ news) (here ∷ slots) zero new rest slot are is =
    let same : first ≡ new = cc in
    subst (λ (e : Element). IsPlaced form start written e here) same are.0
placed-at form start written (first ∷ news) (here ∷ slots) (suc index) new rest slot are is = placed-at form start written news slots index new rest slot are.1 is

-- without a place none has the id
pub no_place : (form : ExtensionsForm) (start : ℕ) (written : List Element) (new : Element) (slot : Slot) → 1 ≤ start → IsPlaced form start written new slot → slot.start ≡ 0 → HasNone written new.0
no_place form start written new slot some (inl none) is = none.1
no_place form start written new slot some (inr placed) is = absurd (omega (arith, placed.start_is, some, is))

pub place : (form : ExtensionsForm) (start : ℕ) (written : List Element) (new : Element) (slot : Slot) → IsPlaced form start written new slot → slot.start ≢ 0 → IsSlot form start written new slot
place form start written new slot (inl none) some = absurd (some none.0)
place form start written new slot (inr placed) some = placed

-- one more is written, of another id
placed-other : (form : ExtensionsForm) (start : ℕ) (written : List Element) (element new : Element) (slot : Slot) → new.0 ≢ element.0 → IsPlaced form start written new slot
    → IsPlaced form start (written ++ element ∷ []) new slot
placed-other form start written element new slot other (inl none) = inl (none.0, All-push (OfOther new.0) written element none.1 (λ same. other (sym same)))
placed-other form start written element new slot other (inr is) =
    inr (record {
      before = is.before;
      after = is.after ++ element ∷ [];
      in_order = ap (λ (es : List Element). es ++ element ∷ []) is.in_order ∙ append_assoc is.before (new ∷ is.after) (element ∷ []);
      none_before = is.none_before;
      none_after = All-push (OfOther new.0) is.after element is.none_after (λ same. other (sym same));
      start_is = is.start_is;
      len_is = is.len_is;
    })

pub placed-others : (form : ExtensionsForm) (start : ℕ) (written : List Element) (element : Element) (news : List Element) (slots : List Slot) → HasNone news element.0
    → ArePlaced form start written news slots → ArePlaced form start (written ++ element ∷ []) news slots
placed-others form start written element [] slots none are = tt
placed-others form start written element (new ∷ news) [] none are = absurd are
placed-others form start written element (new ∷ news) (slot ∷ slots) none are = (
  placed-other form start written element new slot (All-head (OfOther element.0) new news none) are.0,
  placed-others form start written element news slots (All-tail (OfOther element.0) new news none) are.1,
)

-- the one at the index is written, which had no place
pub placed-own : (form : ExtensionsForm) (start : ℕ) (written news : List Element) (slots : List Slot) (index : ℕ) (element : Element) (rest : List Element) (slot : Slot) → HaveOwnIds news
    → drop index news ≡ element ∷ rest → HasNone written element.0 → slot.start ≡ start + length (elements_bytes form written) + length (element_header form element.0 (length element.1))
    → slot.len ≡ length element.1 → ArePlaced form start written news slots → ArePlaced form start (written ++ element ∷ []) news (set slots index slot)
placed-own form start written [] slots zero element rest slot own is none start_is len_is are = absurd cc
placed-own form start written [] slots (suc index) element rest slot own is none start_is len_is are = absurd cc
placed-own form start written (new ∷ news) [] index element rest slot own is none start_is len_is are = absurd are
placed-own form start written (new ∷ news) (was ∷ slots) zero element rest slot own is none start_is len_is are =
    let same : new ≡ element = cc in
    let here : IsPlaced form start (written ++ element ∷ []) element slot =
    inr (record {
      before = written;
      after = [];
      in_order = refl;
      none_before = none;
      none_after = All-nil (OfOther element.0);
      start_is = start_is;
      len_is = len_is;
    }) in (
      subst (λ (e : Element). IsPlaced form start (written ++ element ∷ []) e slot) (sym same) here,
      placed-others form start written element news slots (subst (λ (e : Element). HasNone news e.0) same own.0) are.1,
    )
placed-own form start written (new ∷ news) (was ∷ slots) (suc index) element rest slot own is none start_is len_is are = (
  placed-other form start written element new was (λ same. at-index (OfOther new.0) news index element rest own.0 is (sym same)) are.0,
  placed-own form start written news slots index element rest slot own.1 is none start_is len_is are.1,
)

-- none is written yet
pub placed-none : (form : ExtensionsForm) (start : ℕ) (news : List Element) (slot : Slot) (count : ℕ) → slot.start ≡ 0 → length news ≤ count → ArePlaced form start [] news (replicate count slot)
placed-none form start [] slot count zero_is few = tt
placed-none form start (new ∷ news) slot zero zero_is few = absurd (omega (arith, few))
placed-none form start (new ∷ news) slot (suc count) zero_is few = (inl (zero_is, All-nil (OfOther new.0)), placed-none form start news slot count zero_is (omega (arith, few)))

-- each is
pub placed-all : (form : ExtensionsForm) (start : ℕ) (written news : List Element) (slots : List Slot) → ArePlaced form start written news slots → AllByRecursion (HasOnly written) news
    → AreSlots form start written news (take (length news) slots)
placed-all form start written [] slots are only = refl
placed-all form start written (new ∷ news) [] are only = absurd are
placed-all form start written (new ∷ news) (slot ∷ slots) are only = (here are.0 only.0, placed-all form start written news slots are.1 only.1)
  where
    here : IsPlaced form start written new slot → HasOnly written new → IsSlot form start written new slot
    here (inl none) one =
        let empty : [] ≡ new ∷ [] = sym (filter-none new.0 written none.1) ∙ one in
        absurd cc
    here (inr placed) one = placed

pub header-length : (form : ExtensionsForm) (id : ℕ) (bytes : List ℕ) → length (element_bytes form (id, bytes)) ≡ length (element_header form id (length bytes)) + length bytes
header-length OneByte id bytes = omega arith
header-length TwoByte id bytes = omega arith

pub header-short : (form : ExtensionsForm) (id : ℕ) (bytes : List ℕ) → length (element_bytes form (id, bytes)) ≤ 2 + length bytes
header-short OneByte id bytes = omega arith
header-short TwoByte id bytes = omega arith

-- the places lie in the row
pub slots-within : (form : ExtensionsForm) (start : ℕ) (row news : List Element) (slots : List Slot) → AreSlots form start row news slots
    → All (λ (slot : Slot). slot.start + slot.len ≤ start + length (elements_bytes form row)) slots
slots-within form start row [] slots are = subst (All (λ (slot : Slot). slot.start + slot.len ≤ start + length (elements_bytes form row))) (sym are) (All-nil (λ (slot : Slot). slot.start + slot.len ≤ start + length (elements_bytes form row)))
slots-within form start row (new ∷ news) [] are = absurd are
slots-within form start row (new ∷ news) (slot ∷ slots) are =
    All-cons (λ (slot : Slot). slot.start + slot.len ≤ start + length (elements_bytes form row)) slot slots (here are.0) (slots-within form start row news slots are.1)
  where
    here : IsSlot form start row new slot → slot.start + slot.len ≤ start + length (elements_bytes form row)
    here is =
        omega (
          arith,
          is.start_is,
          is.len_is,
          ap (λ (es : List Element). length (elements_bytes form es)) is.in_order,
          ap length (elements_bytes-append form is.before (new ∷ is.after)),
          length-append (elements_bytes form is.before) (elements_bytes form (new ∷ is.after)),
          length-append (element_bytes form new) (elements_bytes form is.after),
          header-length form new.0 new.1,
        )

-- ---- the bytes

pub written-none : (form : ExtensionsForm) (start : ℕ) (news : List Element) (old : List ℕ) (slots : List Slot) → ArePlaced form start [] news slots → AreWritten form start news old [] slots old start
written-none form start news old slots placed = record {
  bytes_are = sym (overwritten-nil old start);
  as_long = refl;
  at_is = omega arith;
  writable = All-nil (IsWritable form);
  placed = placed;
}

-- one more is written
pub written-more : (form : ExtensionsForm) (start : ℕ) (news : List Element) (old : List ℕ) (written : List Element) (slots more : List Slot) (buf new : List ℕ) (at end : ℕ) (element : Element)
    → AreWritten form start news old written slots buf at → at ≤ length buf → length new ≡ length buf → new ≡ overwritten buf at (element_bytes form element)
    → end ≡ at + length (element_bytes form element) → IsWritable form element → ArePlaced form start (written ++ element ∷ []) news more
    → AreWritten form start news old (written ++ element ∷ []) more new end
written-more form start news old written slots more buf new at end element is within long new-is end-is can placed =
    let row : List ℕ = elements_bytes form written in
    let bytes : List ℕ = element_bytes form element in
    let both : elements_bytes form (written ++ element ∷ []) ≡ row ++ bytes =
    elements_bytes-append form written (element ∷ []) ∙ ap (λ (xs : List ℕ). row ++ xs) (append-nil bytes) in
    record {
      bytes_are = new-is ∙ ap (λ (b : List ℕ). overwritten b at bytes) is.bytes_are
          ∙ overwritten-overwritten old row bytes start at is.at_is (omega (arith, within, is.as_long)) ∙ ap (overwritten old start) (sym both);
      as_long = long ∙ is.as_long;
      at_is = omega (arith, end-is, is.at_is, ap length both, length-append row bytes);
      writable = All-push (IsWritable form) written element is.writable can;
      placed = placed;
    }

-- the group's element at the index is
pub own-written : (form : ExtensionsForm) (start : ℕ) (news : List Element) (old : List ℕ) (written : List Element) (slots : List Slot) (buf new : List ℕ) (at end index : ℕ) (element : Element)
    (rest : List Element) (slot : Slot) → HaveOwnIds news → drop index news ≡ element ∷ rest → AreWritten form start news old written slots buf at → HasNone written element.0 → at ≤ length buf
    → length new ≡ length buf → new ≡ overwritten buf at (element_bytes form element) → end ≡ at + length (element_bytes form element) → IsWritable form element
    → slot.start ≡ end - length element.1 → slot.len ≡ length element.1 → AreWritten form start news old (written ++ element ∷ []) (set slots index slot) new end
own-written form start news old written slots buf new at end index element rest slot own there is none within long new-is end-is can start_is len_is =
    written-more form start news old written slots (set slots index slot) buf new at end element is within long new-is end-is can
    (placed-own form start written news slots index element rest slot own there none
    (omega (arith, start_is, end-is, is.at_is, header-length form element.0 element.1)) len_is is.placed)

-- what is so of a value where two things are
pub on-some : {A : Type 0} (result : Option A) (P Q R : A → Type 0) → ((a : A) → P a → Q a → R a) → IfSome result P → IfSome result Q → IfSome result R
on-some None P Q R gives p q = tt
on-some (Some a) P Q R gives p q = gives a p q

-- the body is whole
pub body-filled : (old written new row : List ℕ) (start len end : ℕ) → written ≡ overwritten old start row → len ≡ start + length row → len ≤ length old → len ≤ end → end < len + 4 → end % 4 ≡ 0 → start % 4 ≡ 0
    → new ≡ overwritten written len (replicate (end - len) 0) → take (end - start) (drop start new) ≡ filled row
unfolding overwritten
body-filled old written new row start len end written-is len-is within low high multiple whole new-is =
    let zeros : List ℕ = replicate (end - len) 0 in
    let count : end - len ≡ padding_of (length row) = omega (arith, len-is, low, high, multiple, whole) in
    let bytes : row ++ zeros ≡ filled row = ap (λ (k : ℕ). row ++ replicate k 0) count in
    let all : new ≡ overwritten old start (row ++ zeros) =
    new-is ∙ ap (λ (b : List ℕ). overwritten b len zeros) written-is ∙ overwritten-overwritten old row zeros start len len-is within in
    let rest : List ℕ = drop (start + length (row ++ zeros)) old in
    let behind : drop start new ≡ (row ++ zeros) ++ rest = ap (drop start) all ∙ drop_at (take start old) ((row ++ zeros) ++ rest) start (front old start (omega (arith, len-is, within))) in
    let long : length (row ++ zeros) ≡ end - start = omega (arith, length-append row zeros, length-replicate {A = ℕ} (end - len) 0, len-is, low) in
    ap (take (end - start)) behind ∙ take_at (row ++ zeros) rest (end - start) long ∙ bytes
  where
    front : (xs : List ℕ) (k : ℕ) → k ≤ length xs → length (take k xs) ≡ k
    front xs k within = length-take-le k xs within

-- the elements are read of it
pub row-read : (form : ExtensionsForm) (row : List Element) → All (IsWritable form) row → AreElements form (filled (elements_bytes form row)) row
row-read form row all = filled-elements form row (by_turns row all)
  where
    by_turns : (es : List Element) → All (IsWritable form) es → AllByRecursion (IsElement form) es
    by_turns [] each = tt
    by_turns (e ∷ es) each = ((All-head (IsWritable form) e es each).1, by_turns es (All-tail (IsWritable form) e es each))
