-- The form that a block has before the group's elements are put, and once each is.
use Rattle.std.proofs.Common.{◌≡◌, ◌≢◌, ◌↔◌, Bool, IsTrue, ℕ, ◌+◌, ◌*◌, ◌<◌, ◌≤◌, ◌⊎◌, inl, inr, All, List, [], ◌∷◌, ◌++◌, length, take, slice_get, Option, Some, None, IfSome, refl, sym, ap, subst, ◌∙◌, arith, length-append}
use Rattle.std.specs.List.{AllByRecursion}
use Rattle.std.proofs.lemmas.Bool.{cases_lt}
use Rattle.std.proofs.lemmas.Option.{same_Some}
use Rattle.std.proofs.lemmas.List.Elements.{All-nil, All-cons, All-head, All-tail, All-push}
use Rattle.rtp_ext.specs.declared.form.ExtensionsForm.{ExtensionsForm}
use Rattle.rtp_ext.specs.declared.form.ExtensionsForm.TheVariants.{OneByte, TwoByte}
use Rattle.rtp_ext.specs.Elements.{Element, IsElement, element_bytes, elements_bytes, AreElements}
use Rattle.rtp_ext.specs.ElementsInARow.{IsWritable}
use Rattle.rtp_ext.specs.ElementsInPlace.{CanRenumber}
use Rattle.rtp_ext.proofs.AnewLemmas.{AreElements-each}
use Rattle.rtp_ext.specs.PutElement.{needed_form, allowed_form}
use Rattle.rtp_ext.proofs.GatheredLemmas.{elements_bytes-append}
use Rattle.rtp_route.specs.Routing.{IsFormForIds, own_form, two_byte_form, IsFormAfter}
use Rattle.rtp_route.specs.Walk.{IsStart, AreMeasured}
use Rattle.rtp_route.proofs.ElementAtLemmas.{taken-more}
use Rattle.rtp_route.proofs.RoomLemmas.{narrow-needed}

-- ---- elements that are gone through

pub All-front : (P : Element → Type 0) (xs : List Element) (x : Element) → All P (xs ++ x ∷ []) → All P xs
All-front P [] x all = All-nil P
All-front P (first ∷ xs) x all = All-cons P first xs (All-head P first (xs ++ x ∷ []) all) (All-front P xs x (All-tail P first (xs ++ x ∷ []) all))

pub All-last : (P : Element → Type 0) (xs : List Element) (x : Element) → All P (xs ++ x ∷ []) → P x
All-last P [] x all = All-head P x [] all
All-last P (first ∷ xs) x all = All-last P xs x (All-tail P first (xs ++ x ∷ []) all)

-- the one-byte form can carry each where it can carry those before and this one
pub fit-more : (before : List Element) (here : Element) (fit next : Bool) → IsTrue fit ↔ All (IsWritable OneByte) before → IsTrue next ↔ (IsTrue fit × IsWritable OneByte here)
    → IsTrue next ↔ All (IsWritable OneByte) (before ++ here ∷ [])
fit-more before here fit next are both = (
  λ yes. All-push (IsWritable OneByte) before here (are.0 (both.0 yes).0) (both.0 yes).1,
  λ all. both.1 (are.1 (All-front (IsWritable OneByte) before here all), All-last (IsWritable OneByte) before here all),
)

-- these are the measures of the elements before the index
pub record AreMeasuredTo (elements : List Element) (index len : ℕ) (fit : Bool) : Type 0 where
  pub are : AreMeasured (take index elements) len fit
  pub few : len ≤ 257 * index

pub measured-more : (elements : List Element) (index len : ℕ) (element : Element) (fit next : Bool) → AreMeasuredTo elements index len fit → slice_get elements index ≡ Some element → IsWritable TwoByte element
    → IsTrue next ↔ (IsTrue fit × IsWritable OneByte element) → AreMeasuredTo elements (index + 1) (len + (2 + length element.1)) next
measured-more elements index len element fit next is here can both =
    let before : List Element = take index elements in
    record {
      are = subst (λ (es : List Element). AreMeasured es (len + (2 + length element.1)) next) (sym (taken-more elements index element here)) (record {
        carried = All-push (IsWritable TwoByte) before element is.are.carried can;
        len_is = omega (
          arith,
          is.are.len_is,
          ap length (elements_bytes-append TwoByte before (element ∷ [])),
          length-append (elements_bytes TwoByte before) (elements_bytes TwoByte (element ∷ [])),
          length-append (element_bytes TwoByte element) [],
        );
        fits = fit-more before element fit next is.are.fits both;
      });
      few = omega (arith, is.few, can.1.2);
    }

-- it carries what the block's form carries, and what is put
carries-wide : (form : ExtensionsForm) (element : Element) → IsWritable OneByte element → IsWritable form element
carries-wide OneByte element can = can
carries-wide TwoByte element can = (can.0, (can.0, omega (arith, can.1.0), omega (arith, can.1.2)))

form-needed : (allowed : Option ExtensionsForm) (needed form : ExtensionsForm) → allowed_form allowed needed ≡ Some form → (form ≡ TwoByte) ⊎ ((needed ≡ OneByte) × (form ≡ OneByte))
form-needed None OneByte form is = inr (refl, cc)
form-needed None TwoByte form is = inl cc
form-needed (Some TwoByte) OneByte form is = inl cc
form-needed (Some TwoByte) TwoByte form is = inl cc
form-needed (Some OneByte) OneByte form is = inr (refl, cc)
form-needed (Some OneByte) TwoByte form is = absurd cc

wide-stays : (allowed : Option ExtensionsForm) (news : List Element) (form : ExtensionsForm) → IsFormAfter allowed (Some TwoByte) news (Some form) → form ≡ TwoByte
wide-stays allowed [] form is = let same : Some form ≡ Some TwoByte = is in cc
wide-stays allowed (new ∷ news) form is = by_form (form-needed allowed TwoByte is.0 is.1) (λ wide_is. wide-stays allowed news form (subst (λ (f : ExtensionsForm). IsFormAfter allowed (Some f) news (Some form)) wide_is is.2))
  where
    by_form : (is.0 ≡ TwoByte) ⊎ ((TwoByte ≡ OneByte) × (is.0 ≡ OneByte)) → (is.0 ≡ TwoByte → form ≡ TwoByte) → form ≡ TwoByte
    by_form (inl wide_is) stays = stays wide_is
    by_form (inr narrow) stays = let never = narrow.0 in absurd cc

pub carries-more : (allowed : Option ExtensionsForm) (was form : ExtensionsForm) (news : List Element) → IsFormAfter allowed (Some was) news (Some form) → (element : Element) → IsWritable was element
    → IsWritable form element
carries-more allowed OneByte form news is element can = carries-wide form element can
carries-more allowed TwoByte form news is element can = subst (λ (f : ExtensionsForm). IsWritable f element) (sym (wide-stays allowed news form is)) can

pub carries-news : (allowed : Option ExtensionsForm) (was form : ExtensionsForm) (news : List Element) → IsFormAfter allowed (Some was) news (Some form) → All (IsWritable TwoByte) news
    → All (IsWritable form) news
carries-news allowed was form [] is all = All-nil (IsWritable form)
carries-news allowed was form (new ∷ news) is all =
    All-cons (IsWritable form) new news (carries-more allowed is.0 form news is.2 new (here was (form-needed allowed (needed_form (Some was) new) is.0 is.1)))
    (carries-news allowed is.0 form news is.2 (All-tail (IsWritable TwoByte) new news all))
  where
    here : (was : ExtensionsForm) → (is.0 ≡ TwoByte) ⊎ ((needed_form (Some was) new ≡ OneByte) × (is.0 ≡ OneByte)) → IsWritable is.0 new
    here was (inl wide_is) = subst (λ (f : ExtensionsForm). IsWritable f new) (sym wide_is) (All-head (IsWritable TwoByte) new news all)
    here was (inr narrow) = subst (λ (f : ExtensionsForm). IsWritable f new) (sym narrow.1) (narrow-needed (Some was) new narrow.0)

-- ---- the form that it starts from

-- only the one-byte form is written where that alone is allowed
narrow-stays : (news : List Element) (form : ExtensionsForm) → IsFormAfter (Some OneByte) (Some OneByte) news (Some form) → form ≡ OneByte
narrow-stays [] form is = let same : Some form ≡ Some OneByte = is in cc
narrow-stays (new ∷ news) form is =
    narrow-stays news form (subst (λ (f : ExtensionsForm). IsFormAfter (Some OneByte) (Some f) news (Some form)) (by_form (needed_form (Some OneByte) new) is.1) is.2)
  where
    by_form : (needed : ExtensionsForm) → allowed_form (Some OneByte) needed ≡ Some is.0 → is.0 ≡ OneByte
    by_form OneByte served = cc
    by_form TwoByte served = absurd cc

-- the two-byte form stays where it is allowed
pub wide-after : (allowed : Option ExtensionsForm) → allowed ≢ Some OneByte → (news : List Element) → IsFormAfter allowed (Some TwoByte) news (Some TwoByte)
wide-after None is_allowed [] = refl
wide-after None is_allowed (new ∷ news) = (TwoByte, refl, wide-after None is_allowed news)
wide-after (Some TwoByte) is_allowed [] = refl
wide-after (Some TwoByte) is_allowed (new ∷ news) = (TwoByte, refl, wide-after (Some TwoByte) is_allowed news)
wide-after (Some OneByte) is_allowed news = absurd (is_allowed refl)

one-or_not : (id : Option ℕ) (bytes : List ℕ) → 1 ≤ length bytes → length bytes ≤ 16 → IfSome id (λ new. IsElement TwoByte (new, bytes))
    → IfSome id (λ new. IsElement OneByte (new, bytes)) ⊎ (IfSome id (λ new. IsElement OneByte (new, bytes)) → ⊥)
one-or_not None bytes some few wide_is = inl tt
one-or_not (Some id) bytes some few wide_is = by_id (cases_lt 14 id)
  where
    by_id : (14 < id) ⊎ (id ≤ 14) → IsElement OneByte (id, bytes) ⊎ (IsElement OneByte (id, bytes) → ⊥)
    by_id (inl long) = inr (λ is. omega (arith, is.0, long))
    by_id (inr short) = inl (short, some, few, omega (arith, wide_is.0))

-- the one-byte form carries each, or not
one-carries : (ids : ℕ → Option ℕ) (elements : List Element) → AllByRecursion (IsElement OneByte) elements → All (CanRenumber TwoByte ids) elements
    → All (CanRenumber OneByte ids) elements ⊎ (All (CanRenumber OneByte ids) elements → ⊥)
one-carries ids [] each wide_each = inl (All-nil (CanRenumber OneByte ids))
one-carries ids (element ∷ elements) each wide_each =
    by_both (one-or_not (ids element.0) element.1 each.0.1 each.0.2 (All-head (CanRenumber TwoByte ids) element elements wide_each))
    (one-carries ids elements each.1 (All-tail (CanRenumber TwoByte ids) element elements wide_each))
  where
    by_both : CanRenumber OneByte ids element ⊎ (CanRenumber OneByte ids element → ⊥) → All (CanRenumber OneByte ids) elements ⊎ (All (CanRenumber OneByte ids) elements → ⊥)
        → All (CanRenumber OneByte ids) (element ∷ elements) ⊎ (All (CanRenumber OneByte ids) (element ∷ elements) → ⊥)
    by_both (inl here) (inl rest) = inl (All-cons (CanRenumber OneByte ids) element elements here rest)
    by_both (inl here) (inr lacks) = inr (λ all. lacks (All-tail (CanRenumber OneByte ids) element elements all))
    by_both (inr lacks) rest = inr (λ all. lacks (All-head (CanRenumber OneByte ids) element elements all))

-- the form that the block has before elements are put
abbrev pub FitsFrom : Option ExtensionsForm → (ℕ → Option ℕ) → ExtensionsForm × List ℕ → List Element → List Element → ExtensionsForm → Type 0
FitsFrom allowed ids block elements news form = (start : Option ExtensionsForm) × IsFormForIds allowed ids (Some block) elements start × IsFormAfter allowed start news (Some form)

from-own : (allowed : Option ExtensionsForm) (ids : ℕ → Option ℕ) (was form : ExtensionsForm) (body : List ℕ) (elements news : List Element) → AreElements was body elements
    → IsFormAfter allowed (Some was) news (Some form) → All (CanRenumber form ids) elements → FitsFrom allowed ids (was, body) elements news form
from-own allowed ids OneByte OneByte body elements news are forms carried = (Some OneByte, own_form carried refl, forms)
from-own allowed ids TwoByte TwoByte body elements news are forms carried = (Some TwoByte, own_form carried refl, forms)
from-own allowed ids TwoByte OneByte body elements news are forms carried = let never : OneByte ≡ TwoByte = wide-stays allowed news OneByte forms in absurd cc
from-own allowed ids OneByte TwoByte body elements news are forms carried =
    by_ids (one-carries ids elements (AreElements-each OneByte body elements are) carried)
  where
    by_ids : All (CanRenumber OneByte ids) elements ⊎ (All (CanRenumber OneByte ids) elements → ⊥) → FitsFrom allowed ids (OneByte, body) elements news TwoByte
    by_ids (inl one) = (Some OneByte, own_form one refl, forms)
    by_ids (inr not_one) =
        let is_allowed : allowed ≢ Some OneByte =
        λ narrow_is.
        let never : TwoByte ≡ OneByte = narrow-stays news TwoByte (subst (λ (a : Option ExtensionsForm). IsFormAfter a (Some OneByte) news (Some TwoByte)) narrow_is forms) in
        cc in
        (Some TwoByte, two_byte_form not_one is_allowed refl, wide-after allowed is_allowed news)

pub fits-from : (allowed : Option ExtensionsForm) (ids : ℕ → Option ℕ) (was start form : ExtensionsForm) (body : List ℕ) (elements news : List Element) → AreElements was body elements
    → (start ≡ was) ⊎ IsFormForIds allowed ids (Some (was, body)) elements (Some start) → IsFormAfter allowed (Some start) news (Some form) → All (CanRenumber form ids) elements
    → FitsFrom allowed ids (was, body) elements news form
fits-from allowed ids was start form body elements news are (inl same) forms carried =
    from-own allowed ids was form body elements news are (subst (λ (f : ExtensionsForm). IsFormAfter allowed (Some f) news (Some form)) same forms) carried
fits-from allowed ids was start form body elements news are (inr fits) forms carried = (Some start, fits, forms)

-- it carries what the block's form carries
pub carries-from : (allowed : Option ExtensionsForm) (ids : ℕ → Option ℕ) (was start form : ExtensionsForm) (body : List ℕ) (elements news : List Element)
    → (start ≡ was) ⊎ IsFormForIds allowed ids (Some (was, body)) elements (Some start) → IsFormAfter allowed (Some start) news (Some form) → (element : Element) → IsWritable was element
    → IsWritable form element
carries-from allowed ids was start form body elements news (inl same) forms element can =
    carries-more allowed was form news (subst (λ (f : ExtensionsForm). IsFormAfter allowed (Some f) news (Some form)) same forms) element can
carries-from allowed ids was start form body elements news (inr (own_form carried is)) forms element can =
    let same : start ≡ was = cc in
    carries-more allowed was form news (subst (λ (f : ExtensionsForm). IsFormAfter allowed (Some f) news (Some form)) same forms) element can
carries-from allowed ids was start form body elements news (inr (two_byte_form long is_allowed is)) forms element can =
    let wide_start : start ≡ TwoByte = cc in
    let wide_is : form ≡ TwoByte = wide-stays allowed news form (subst (λ (f : ExtensionsForm). IsFormAfter allowed (Some f) news (Some form)) wide_start forms) in
    subst (λ (f : ExtensionsForm). IsWritable f element) (sym wide_is) (in_two was can)
  where
    in_two : (f : ExtensionsForm) → IsWritable f element → IsWritable TwoByte element
    in_two OneByte is = carries-wide TwoByte element is
    in_two TwoByte is = is

-- it starts from the block's own form, or from the two-byte form where that is allowed and the own can't carry the new ids
pub start-own : (allowed : Option ExtensionsForm) (ids : ℕ → Option ℕ) (block : Option (ExtensionsForm × List ℕ)) (form : ExtensionsForm) (bytes : List ℕ) → Some (form, bytes) ≡ block → IsStart allowed ids block form
start-own allowed ids block form bytes is was body elements same are = inl (ap (λ (b : ExtensionsForm × List ℕ). b.0) (same_Some (form, bytes) (was, body) (is ∙ sym same)))

pub start-two : (allowed : Option ExtensionsForm) (ids : ℕ → Option ℕ) (block : Option (ExtensionsForm × List ℕ)) (form : ExtensionsForm) (bytes : List ℕ) → Some (form, bytes) ≡ block → allowed ≢ Some OneByte
    → ((elements : List Element) → AreElements form bytes elements → All (CanRenumber form ids) elements → ⊥) → IsStart allowed ids block TwoByte
start-two allowed ids block form bytes is is_allowed long was body elements same are =
    let one : (form, bytes) ≡ (was, body) = same_Some (form, bytes) (was, body) (is ∙ sym same) in
    inr (two_byte_form (subst (λ (b : ExtensionsForm × List ℕ). AreElements b.0 b.1 elements → All (CanRenumber b.0 ids) elements → ⊥) one (long elements) are) is_allowed refl)
