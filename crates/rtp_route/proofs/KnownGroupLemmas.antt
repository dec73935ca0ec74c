-- A group that was prepared: what its numbers are found to be, and what is found by them.
use Rattle.std.proofs.Common.{◌≡◌, ◌≢◌, ℕ, zero, suc, ◌+◌, ◌*◌, ◌<◌, ◌≤◌, ◌⊎◌, inl, inr, All, Bool, true, false, List, [], ◌∷◌, ◌++◌, length, take, replicate, set, get_or, slice_get, Option, Some, None, refl, sym, ap, subst, ◌∙◌, arith, if◌then◌else◌, length-append}
use Rattle.std.proofs.lemmas.Bool.{le-leb, cases_lt}
use Rattle.std.specs.List.{sum_by}
use Rattle.std.proofs.Math.Seq.{take-suc}
use Rattle.std.proofs.lemmas.List.{length-replicate, map-append}
use Rattle.std.proofs.lemmas.List.Sums.{sum_by-append, sum_by-cons}
use Rattle.std.proofs.lemmas.List.Elements.{All-nil, All-cons, All-head, All-tail, All-push}
use Rattle.rtp_ext.specs.declared.form.ExtensionsForm.{ExtensionsForm}
use Rattle.rtp_ext.specs.declared.form.ExtensionsForm.TheVariants.{OneByte, TwoByte}
use Rattle.rtp_ext.specs.Elements.{Element, elements_bytes}
use Rattle.rtp_ext.specs.ElementsInARow.{IsWritable, serves_one_byte}
use Rattle.rtp_ext.specs.PutElement.{needed_form}
use Rattle.rtp_ext.proofs.ServingFormLemmas.{IsWritable-one}
use Rattle.rtp_route.specs.Routing.{IsFormAfter}
use Rattle.rtp_route.specs.StoredGroup.{blank, blank_elements}
use Rattle.rtp_route.proofs.FormsLemmas.{All-front, All-last, wide-after}
use Rattle.rtp_route.specs.GroupLaws.{blank-at}
use Rattle.rtp_route.proofs.ElementAtLemmas.{taken-more}
use Rattle.rtp_route.proofs.WideLemmas.{wide, wide-more}

-- ---- the form once all are put

serves-one : (element : Element) → IsWritable OneByte element → serves_one_byte element ≡ true
serves-one element is =
    rw (le-leb 1 element.0 is.0, le-leb element.0 14 is.1.0, le-leb 1 (length element.1) is.1.1, le-leb (length element.1) 16 is.1.2) refl

needed-one : (element : Element) → IsWritable OneByte element → needed_form (Some OneByte) element ≡ OneByte
needed-one element is = ap (λ (serves : Bool). if serves then OneByte else TwoByte) (serves-one element is)

pub narrow-after : (allowed : Option ExtensionsForm) → allowed ≢ Some TwoByte → (news : List Element) → All (IsWritable OneByte) news → IsFormAfter allowed (Some OneByte) news (Some OneByte)
narrow-after (Some TwoByte) not_two news all = absurd (not_two refl)
narrow-after None not_two [] all = refl
narrow-after None not_two (new ∷ news) all =
    (OneByte, ap (λ (form : ExtensionsForm). Some form) (needed-one new (All-head (IsWritable OneByte) new news all)), narrow-after None not_two news (All-tail (IsWritable OneByte) new news all))
narrow-after (Some OneByte) not_two [] all = refl
narrow-after (Some OneByte) not_two (new ∷ news) all =
    (OneByte, rw (needed-one new (All-head (IsWritable OneByte) new news all)) refl, narrow-after (Some OneByte) not_two news (All-tail (IsWritable OneByte) new news all))

pub keeps-all : (was : ExtensionsForm) (news : List Element) → All (IsWritable OneByte) news → IsFormAfter None (Some was) news (Some was)
keeps-all OneByte news all = narrow-after None (λ same. let never : None ≡ Some TwoByte = same in cc) news all
keeps-all TwoByte news all = wide-after None (λ same. let never : None ≡ Some OneByte = same in cc) news

wide-by : (was : ExtensionsForm) (new : Element) (news : List Element) (serves : Bool) → serves_one_byte new ≡ serves → (All (IsWritable OneByte) (new ∷ news) → ⊥)
    → ((All (IsWritable OneByte) news → ⊥) → IsFormAfter None (Some OneByte) news (Some TwoByte)) → IsFormAfter None (Some OneByte) (new ∷ news) (Some TwoByte)
wide-by was new news true serves not_all later =
    (OneByte, rw serves refl, later (λ all. not_all (All-cons (IsWritable OneByte) new news (IsWritable-one new serves) all)))
wide-by was new news false serves not_all later = (TwoByte, rw serves refl, wide-after None (λ same. let never : None ≡ Some OneByte = same in cc) news)

pub wide-all : (was : ExtensionsForm) (news : List Element) → (All (IsWritable OneByte) news → ⊥) → IsFormAfter None (Some was) news (Some TwoByte)
wide-all TwoByte news not_all = wide-after None (λ same. let never : None ≡ Some OneByte = same in cc) news
wide-all OneByte [] not_all = absurd (not_all (All-nil (IsWritable OneByte)))
wide-all OneByte (new ∷ news) not_all = wide-by OneByte new news (serves_one_byte new) refl not_all (wide-all OneByte news)

pub wide-first : (was : ExtensionsForm) (news : List Element) → 1 ≤ length news → IsFormAfter (Some TwoByte) (Some was) news (Some TwoByte)
wide-first was [] some = absurd (omega (arith, some))
wide-first was (new ∷ news) some = (TwoByte, refl, wide-after (Some TwoByte) (λ same. let never : Some TwoByte ≡ Some OneByte = same in cc) news)

-- ---- what it says of the lengths

pub wide-blank : (ids lens : List ℕ) (count : ℕ) → count ≤ length ids → count ≤ length lens → wide (take count (blank_elements ids lens)) ≡ 2 * count + sum_by (λ len. len) (take count lens)
wide-blank ids lens zero few long = refl
wide-blank [] lens (suc count) few long = absurd (omega (arith, few))
wide-blank (id ∷ ids) [] (suc count) few long = absurd (omega (arith, long))
wide-blank (id ∷ ids) (len ∷ lens) (suc count) few long =
    omega (
      arith,
      length-append (replicate len 0) (elements_bytes TwoByte (take count (blank_elements ids lens))),
      length-replicate {A = ℕ} len 0,
      sum_by-cons (λ (l : ℕ). l) len (take count lens),
      wide-blank ids lens count (omega (arith, few)) (omega (arith, long)),
    )

-- elements that the two-byte form can carry take at most 257 bytes each
pub wide-carried : (news : List Element) → All (IsWritable TwoByte) news → wide news ≤ 257 * length news
wide-carried [] all = omega arith
wide-carried (new ∷ news) all =
    omega (
      arith,
      wide-more new news,
      (All-head (IsWritable TwoByte) new news all).1.2,
      wide-carried news (All-tail (IsWritable TwoByte) new news all),
    )

-- ---- what is found of the elements before an index

pub record IsFound (ids lens numbers : List ℕ) (index total : ℕ) (one_byte : Bool) : Type 0 where
  pub numbered : (k : ℕ) → k < index → get_or numbers (get_or ids k 0) 0 ≡ k + 1
  pub carried : All (IsWritable TwoByte) (take index (blank_elements ids lens))
  pub total_is : total ≡ sum_by (λ len. len) (take index lens)
  pub few : total ≤ 255 * index
  pub short : one_byte ≡ true → All (IsWritable OneByte) (take index (blank_elements ids lens))
  pub long : one_byte ≡ false → All (IsWritable OneByte) (take index (blank_elements ids lens)) → ⊥

-- the elements before it and this one
IsFound-more-carried : (ids lens : List ℕ) (index : ℕ) → index < length ids → index < length lens
    → take (index + 1) (blank_elements ids lens) ≡ take index (blank_elements ids lens) ++ (get_or ids index 0, replicate (get_or lens index 0) 0) ∷ []
IsFound-more-carried ids lens index within long = taken-more (blank_elements ids lens) index _ (blank-at ids lens index within long)

sum-more : (lens : List ℕ) (index : ℕ) → index < length lens → sum_by (λ len. len) (take (index + 1) lens) ≡ sum_by (λ len. len) (take index lens) + get_or lens index 0
sum-more lens index within =
    let next : index + 1 ≡ suc index = omega arith in
    omega (
      arith,
      ap (λ (k : ℕ). sum_by (λ (len : ℕ). len) (take k lens)) next,
      ap (λ (ls : List ℕ). sum_by (λ (len : ℕ). len) ls) (take-suc lens index 0 within),
      sum_by-append (λ (len : ℕ). len) (take index lens) (get_or lens index 0 ∷ []),
    )

pub found-more : (ids lens numbers : List ℕ) (index total : ℕ) (one_byte next : Bool) → IsFound ids lens numbers index total one_byte → index < length ids → index < length lens
    → get_or numbers (get_or ids index 0) 0 ≡ index + 1 → 1 ≤ get_or ids index 0 → get_or ids index 0 ≤ 255 → get_or lens index 0 ≤ 255
    → (next ≡ true → (one_byte ≡ true) × IsWritable OneByte (get_or ids index 0, replicate (get_or lens index 0) 0))
    → (next ≡ false → (one_byte ≡ false) ⊎ (IsWritable OneByte (get_or ids index 0, replicate (get_or lens index 0) 0) → ⊥))
    → IsFound ids lens numbers (index + 1) (total + get_or lens index 0) next
found-more ids lens numbers index total one_byte next is within long number some few_ids few_lens serves fails =
    let here : Element = (get_or ids index 0, replicate (get_or lens index 0) 0) in
    let before : List Element = take index (blank_elements ids lens) in
    let more : take (index + 1) (blank_elements ids lens) ≡ before ++ here ∷ [] = IsFound-more-carried ids lens index within long in
    let as_long : length here.1 ≡ get_or lens index 0 = length-replicate {A = ℕ} (get_or lens index 0) 0 in
    record {
      numbered = λ k below. by_k k below (cases_lt k index);
      carried = subst (All (IsWritable TwoByte)) (sym more) (All-push (IsWritable TwoByte) before here is.carried (some, (some, few_ids, omega (arith, as_long, few_lens))));
      total_is = omega (arith, is.total_is, sum-more lens index long);
      few = omega (arith, is.few, few_lens);
      short = λ yes. subst (All (IsWritable OneByte)) (sym more) (All-push (IsWritable OneByte) before here (is.short (serves yes).0) (serves yes).1);
      long = λ no all. by_failure (fails no) (subst (All (IsWritable OneByte)) more all);
    }
  where
    by_k : (k : ℕ) → k < index + 1 → (k < index) ⊎ (index ≤ k) → get_or numbers (get_or ids k 0) 0 ≡ k + 1
    by_k k below (inl before) = is.numbered k before
    by_k k below (inr not_before) = let same : k ≡ index = omega (arith, below, not_before) in subst (λ (i : ℕ). get_or numbers (get_or ids i 0) 0 ≡ i + 1) (sym same) number

    by_failure : (one_byte ≡ false) ⊎ (IsWritable OneByte (get_or ids index 0, replicate (get_or lens index 0) 0) → ⊥)
        → All (IsWritable OneByte) (take index (blank_elements ids lens) ++ (get_or ids index 0, replicate (get_or lens index 0) 0) ∷ []) → ⊥
    by_failure (inl before_fails) all = is.long before_fails (All-front (IsWritable OneByte) (take index (blank_elements ids lens)) _ all)
    by_failure (inr here_fails) all = here_fails (All-last (IsWritable OneByte) (take index (blank_elements ids lens)) _ all)

-- ---- ids and lengths that are put at an index

shapes-suc : (ids lens : List ℕ) (index id len : ℕ) → index < length ids → index < length lens
    → take (suc index) (blank_elements (set ids index id) (set lens index len)) ≡ take index (blank_elements ids lens) ++ (id, replicate len 0) ∷ []
shapes-suc [] lens index id len within long = absurd (omega (arith, within))
shapes-suc (first ∷ ids) [] index id len within long = absurd (omega (arith, long))
shapes-suc (first ∷ ids) (few ∷ lens) zero id len within long = refl
shapes-suc (first ∷ ids) (few ∷ lens) (suc index) id len within long =
    ap (λ (es : List Element). (first, replicate few 0) ∷ es) (shapes-suc ids lens index id len (omega (arith, within)) (omega (arith, long)))

pub shapes-more : (ids lens : List ℕ) (index : ℕ) (news : List Element) (element : Element) → index < length ids → index < length lens → slice_get news index ≡ Some element
    → take index (blank_elements ids lens) ≡ blank (take index news)
    → take (index + 1) (blank_elements (set ids index element.0) (set lens index (length element.1))) ≡ blank (take (index + 1) news)
shapes-more ids lens index news element within long here before =
    let next : index + 1 ≡ suc index = omega arith in
    let zeros : Element = (element.0, replicate (length element.1) 0) in
    ap (λ (k : ℕ). take k (blank_elements (set ids index element.0) (set lens index (length element.1)))) next ∙ shapes-suc ids lens index element.0 (length element.1) within long
    ∙ ap (λ (es : List Element). es ++ zeros ∷ []) before ∙ sym (map-append (λ (e : Element). (e.0, replicate (length e.1) 0)) (take index news) (element ∷ []))
    ∙ ap blank (sym (taken-more news index element here))
