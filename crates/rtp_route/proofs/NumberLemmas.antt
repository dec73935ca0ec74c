-- The numbers of a group's elements, by their ids.
use Rattle.std.proofs.Common.{◌≡◌, ◌≢◌, ℕ, zero, suc, ◌+◌, ◌<◌, ◌≤◌, ◌⊎◌, inl, inr, List, [], ◌∷◌, ◌++◌, length, take, replicate, set, slice_get, slice_index, Some, refl, sym, ap, ◌∙◌, subst, arith}
use Rattle.std.proofs.lemmas.Bool.{cases_lt}
use Rattle.std.proofs.lemmas.List.{take_all, length-set, length-replicate, get_or-replicate, get_or-set_same, get_or-set_other}
use Rattle.std.proofs.lemmas.List.Elements.{All-nil, All-head, All-tail, All-push}
use Rattle.rtp_ext.specs.Elements.{Element}
use Rattle.rtp_ext.specs.ElementsInPlace.{HasNone}
use Rattle.rtp_ext.proofs.RawWritingLemmas.{left-more}
use Rattle.rtp_route.specs.Template.{HaveOwnIds}
use Rattle.rtp_route.specs.Walk.{IsNumberOf, AreNumbersOf}
use Rattle.rtp_route.proofs.ElementAtLemmas.{taken-more, none-more}
use Rattle.rtp_route.proofs.WalkLemmas.{OfOther, at-index}

own-push : (elements : List Element) (new : Element) → HaveOwnIds elements → HasNone elements new.0 → HaveOwnIds (elements ++ new ∷ [])
own-push [] new own none = (All-nil (OfOther new.0), tt)
own-push (first ∷ elements) new own none = (
  All-push (OfOther first.0) elements new own.0 (λ same. All-head (OfOther new.0) first elements none (sym same)),
  own-push elements new own.1 (All-tail (OfOther new.0) first elements none),
)

-- an element before another one has another id
pub own-before : (elements : List Element) (k i : ℕ) (one other : Element) → HaveOwnIds elements → slice_get elements k ≡ Some one → slice_get elements i ≡ Some other → k < i → one.0 ≢ other.0
own-before [] k i one other own here there before = absurd cc
own-before (first ∷ elements) zero zero one other own here there before = absurd (omega (arith, before))
own-before (first ∷ elements) (suc k) zero one other own here there before = absurd (omega (arith, before))
own-before (first ∷ elements) zero (suc i) one other own here there before =
    let same : first ≡ one = cc in
    λ ids. at-index (OfOther first.0) elements i other _ own.0 (left-more elements i other there) (sym (ap (λ (e : Element). e.0) same ∙ ids))
own-before (first ∷ elements) (suc k) (suc i) one other own here there before = own-before elements k i one other own.1 here there (omega (arith, before))

-- the number of the id, once the elements before the index have theirs
abbrev pub IsNumberTo : List Element → ℕ → ℕ → ℕ → Type 0
IsNumberTo elements index id number =
    ((number ≡ 0) × HasNone (take index elements) id) ⊎ ((k : ℕ) × (was : List ℕ) × (k < index) × (number ≡ k + 1) × (slice_get elements k ≡ Some (id, was)))

pub record AreNumbered (elements : List Element) (index : ℕ) (numbers : List ℕ) : Type 0 where
  pub long : length numbers ≡ 256
  pub own : HaveOwnIds (take index elements)
  pub each : (id : ℕ) → id < 256 → IsNumberTo elements index id (slice_index numbers id)

pub numbered-start : (elements : List Element) → AreNumbered elements 0 (replicate 256 0)
numbered-start elements = record {
  long = length-replicate {A = ℕ} 256 0;
  own = tt;
  each = λ id within. inl (get_or-replicate {A = ℕ} 256 id 0 0 within, All-nil (OfOther id));
}

-- one more, of which none before has the id
pub numbered-more : (elements : List Element) (index : ℕ) (numbers : List ℕ) (element : Element) → AreNumbered elements index numbers → slice_get elements index ≡ Some element → element.0 < 256
    → slice_index numbers element.0 ≡ 0 → AreNumbered elements (index + 1) (set numbers element.0 (index + 1))
numbered-more elements index numbers element are here below free = record {
  long = length-set numbers element.0 (index + 1) ∙ are.long;
  own = subst HaveOwnIds (sym (taken-more elements index element here)) (own-push (take index elements) element are.own (none_has (are.each element.0 below)));
  each = λ id within. by_id id within (cases_lt id element.0) (cases_lt element.0 id);
}
  where
    none_has : IsNumberTo elements index element.0 (slice_index numbers element.0) → HasNone (take index elements) element.0
    none_has (inl none) = none.1
    none_has (inr there) = absurd (omega (arith, there.3, free))

    still : (id : ℕ) → id ≢ element.0 → IsNumberTo elements index id (slice_index numbers id) → IsNumberTo elements (index + 1) id (slice_index numbers id)
    still id other (inl none) = inl (none.0, none-more elements index id element here none.1 (λ same. other (sym same)))
    still id other (inr there) = inr (there.0, there.1, omega (arith, there.2), there.3, there.4)

    of_other : (id : ℕ) → id < 256 → id ≢ element.0 → IsNumberTo elements (index + 1) id (slice_index (set numbers element.0 (index + 1)) id)
    of_other id within other = subst (IsNumberTo elements (index + 1) id) (sym (get_or-set_other numbers element.0 id (index + 1) 0 other)) (still id other (are.each id within))

    of_same : (id : ℕ) → id ≡ element.0 → IsNumberTo elements (index + 1) id (slice_index (set numbers element.0 (index + 1)) id)
    of_same id same =
        inr (
          index,
          element.1,
          omega arith,
          subst (λ (k : ℕ). slice_index (set numbers element.0 (index + 1)) k ≡ index + 1) (sym same) (get_or-set_same numbers element.0 (index + 1) 0 (omega (arith, are.long, below))),
          subst (λ (k : ℕ). slice_get elements index ≡ Some (k, element.1)) (sym same) here,
        )

    by_id : (id : ℕ) → id < 256 → (id < element.0) ⊎ (element.0 ≤ id) → (element.0 < id) ⊎ (id ≤ element.0)
        → IsNumberTo elements (index + 1) id (slice_index (set numbers element.0 (index + 1)) id)
    by_id id within (inl before) after = of_other id within (λ same. omega (arith, before, same))
    by_id id within (inr not_before) (inl after) = of_other id within (λ same. omega (arith, after, same))
    by_id id within (inr not_before) (inr not_after) = of_same id (omega (arith, not_before, not_after))

-- the id of one is that of one before
pub numbered-twice : (elements : List Element) (index : ℕ) (numbers : List ℕ) (element : Element) → AreNumbered elements index numbers → slice_get elements index ≡ Some element → element.0 < 256
    → slice_index numbers element.0 ≢ 0 → HaveOwnIds elements → ⊥
numbered-twice elements index numbers element are here below taken own = by_number (are.each element.0 below)
  where
    by_number : IsNumberTo elements index element.0 (slice_index numbers element.0) → ⊥
    by_number (inl none) = taken none.0
    by_number (inr there) = own-before elements there.0 index (element.0, there.1) element own there.4 here there.2 refl

-- all are numbered
pub numbered-all : (elements : List Element) (index : ℕ) (numbers : List ℕ) → AreNumbered elements index numbers → length elements ≤ index → HaveOwnIds elements × AreNumbersOf elements numbers
numbered-all elements index numbers are all = (
  subst HaveOwnIds (take_all index elements all) are.own,
  λ id within. by_number id (are.each id within),
)
  where
    by_number : (id : ℕ) → IsNumberTo elements index id (slice_index numbers id) → IsNumberOf elements id (slice_index numbers id)
    by_number id (inl none) = inl (none.0, subst (λ (es : List Element). HasNone es id) (take_all index elements all) none.1)
    by_number id (inr there) = inr (there.0, there.1, there.3, there.4)
