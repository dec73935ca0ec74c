-- A group that is prepared: its numbers, and why one isn't.
use Rattle.std.proofs.Common.{◌≡◌, ℕ, ◌+◌, ◌<◌, ◌≤◌, ◌⊎◌, inl, inr, All, Bool, true, false, List, [], ◌∷◌, ◌++◌, length, replicate, get_or, slice_get, slice_index, Option, Some, None, IsSome, IfNone, refl, sym, ap, subst, ◌∙◌, arith}
use mir.Val.{bool_byte}
use Rattle.std.proofs.lemmas.Bool.{cases_lt}
use Rattle.std.proofs.lemmas.Option.{slice_get-get_or, slice_get_within, get_or_from_slice_get, slice_get-map}
use Rattle.std.proofs.lemmas.List.Elements.{All-head, All-tail}
use Rattle.std.specs.Option.{option_map}
use Rattle.rtp_ext.specs.declared.form.ExtensionsForm.TheVariants.{TwoByte}
use Rattle.rtp_ext.specs.Elements.{Element}
use Rattle.rtp_ext.specs.ElementsInARow.{IsWritable}
use Rattle.rtp_ext.proofs.RawWritingLemmas.{left-more}
use Rattle.rtp_route.specs.declared.not_routed.NotRouted.{NotRouted}
use Rattle.rtp_route.specs.declared.not_routed.NotRouted.TheVariants.{ManyElements, RepeatedId, LongId, NotPut}
use Rattle.rtp_route.specs.declared.stored_group.StoredGroup.{StoredGroup}
use Rattle.rtp_route.specs.NotRouted.{AreForTemplate}
use Rattle.rtp_route.specs.StoredGroup.{blank, elements_in, AreNumbered, KeepsFromGroup}
use Rattle.rtp_route.specs.GroupLaws.{element-at}
use Rattle.rtp_route.specs.Template.{HaveOwnIds}
use Rattle.rtp_route.specs.Walk.{IsNumberOf, AreNumbersOf}
use Rattle.rtp_route.proofs.NumberLemmas.{own-before}
use Rattle.rtp_route.proofs.WalkLemmas.{OfOther, at-index}

-- what is so of each element is so of one at an index
at : (P : Element → Type 0) (news : List Element) (k : ℕ) (element : Element) → All P news → slice_get news k ≡ Some element → P element
at P news k element all here = subst P (get_or_from_slice_get news k element element here) (all k element (slice_get_within news k element here))

-- no element has the id 0, and so it has no number
pub zero-number : (news : List Element) (numbers : List ℕ) → AreNumbersOf news numbers → All (IsWritable TwoByte) news → slice_index numbers 0 ≡ 0
zero-number news numbers are carried = by_number (are 0 (omega arith))
  where
    by_number : IsNumberOf news 0 (slice_index numbers 0) → slice_index numbers 0 ≡ 0
    by_number (inl none) = none.0
    by_number (inr there) = absurd (omega (arith, (at (IsWritable TwoByte) news there.0 (0, there.1) carried there.3).0))

-- the number at the id of an element is its own
own-number : (news : List Element) (numbers : List ℕ) (index : ℕ) (element : Element) → AreNumbersOf news numbers → HaveOwnIds news → All (IsWritable TwoByte) news → slice_get news index ≡ Some element
    → slice_index numbers element.0 ≡ index + 1
own-number news numbers index element are own carried here = by_number (are element.0 (omega (arith, (at (IsWritable TwoByte) news index element carried here).1.1)))
  where
    by_order : (k : ℕ) (was : List ℕ) → slice_get news k ≡ Some (element.0, was) → (k < index) ⊎ (index ≤ k) → (index < k) ⊎ (k ≤ index) → k ≡ index
    by_order k was there (inl before) after = absurd (own-before news k index (element.0, was) element own there here before refl)
    by_order k was there (inr not_before) (inl after) = absurd (own-before news index k element (element.0, was) own here there after refl)
    by_order k was there (inr not_before) (inr not_after) = omega (arith, not_before, not_after)

    by_number : IsNumberOf news element.0 (slice_index numbers element.0) → slice_index numbers element.0 ≡ index + 1
    by_number (inl none) = absurd (at-index (OfOther element.0) news index element _ none.1 (left-more news index element here) refl)
    by_number (inr there) = omega (arith, there.2, by_order there.0 there.1 there.3 (cases_lt there.0 index) (cases_lt index there.0))

-- so at the ids that are put stand the numbers
pub numbered-shapes : (group : StoredGroup) (news : List Element) → group.count ≤ 16 → length group.element_ids ≡ 16 → length group.data_lens ≡ 16 → group.count ≡ length news → elements_in group ≡ blank news
    → AreNumbersOf news group.numbers → HaveOwnIds news → All (IsWritable TwoByte) news → AreNumbered group
numbered-shapes group news few ids lens count_is same are own carried index within =
    let none : Element = (0, []) in
    let element : Element = get_or news index none in
    let here : slice_get news index ≡ Some element = slice_get-get_or news index none (omega (arith, within, count_is)) in
    let zeros : Element → Element = λ e. (e.0, replicate (length e.1) 0) in
    let put : slice_get (elements_in group) index ≡ Some (get_or group.element_ids index 0, replicate (get_or group.data_lens index 0) 0) = element-at group index few ids lens within in
    let given : slice_get (elements_in group) index ≡ Some (zeros element) = ap (λ (es : List Element). slice_get es index) same ∙ slice_get-map zeros news index ∙ ap (option_map zeros) here in
    let both : Some (get_or group.element_ids index 0, replicate (get_or group.data_lens index 0) 0) ≡ Some (zeros element) = sym put ∙ given in
    let id_is : get_or group.element_ids index 0 ≡ element.0 = ap (λ (o : Option Element). first_id o) both in
    ap (λ (id : ℕ). slice_index group.numbers id) id_is ∙ own-number news group.numbers index element are own carried here
  where
    first_id : Option Element → ℕ
    first_id None = 0
    first_id (Some e) = e.0

middle : (P : Element → Type 0) (before : List Element) (element : Element) (after : List Element) → All P (before ++ element ∷ after) → P element
middle P [] element after all = All-head P element after all
middle P (first ∷ before) element after all = middle P before element after (All-tail P first (before ++ element ∷ after) all)

-- nothing keeps from it where there are few elements with ids of their own, which can be carried
pub kept-none : (news : List Element) (cause : NotRouted) → AreForTemplate news → All (IsWritable TwoByte) news → KeepsFromGroup news cause → ⊥
kept-none news ManyElements few carried many = omega (arith, few.0, many)
kept-none news RepeatedId few carried repeated = repeated.1 few.1
kept-none news LongId few carried never = never
kept-none news (NotPut cause) few carried kept =
    let first = kept.1 in
    let can = middle (IsWritable TwoByte) first.before first.element first.after (subst (All (IsWritable TwoByte)) first.in_order carried) in
    omega (arith, (first.long_data can.0).0, can.1.2)

pub some-if : (P : Type 0) (totals : Option (ℕ × Bool)) → IfNone totals (P → ⊥) → P → IsSome totals
some-if P None none is = absurd (none is)
some-if P (Some totals) none is = refl

-- what the byte of a flag says

pub byte-true : (flag : Bool) (byte : ℕ) → byte ≡ bool_byte flag → 0 < byte → flag ≡ true
byte-true true byte is some = refl
byte-true false byte is some = absurd (omega (arith, is, some))

pub byte-false : (flag : Bool) (byte : ℕ) → byte ≡ bool_byte flag → byte ≡ 0 → flag ≡ false
byte-false true byte is none = absurd (omega (arith, is, none))
byte-false false byte is none = refl
