-- Elements that get other ids, or become padding, one after another.
use Rattle.std.proofs.Common.{◌≡◌, ℕ, zero, suc, ◌≤◌, ◌<◌, List, [], ◌∷◌, ◌++◌, length, take, drop, replicate, Bool, true, false, ◌||◌, ◌==◌, if◌then◌else◌, get_or, ◌↔◌, IsTrue, Option, Some, None, is_none, IfSome, All, append_assoc, length-append, arith, refl, sym, ap, ◌∙◌, subst}
use Rattle.std.specs.List.{AllByRecursion, flat_map, filter_map, list_any, cons_option}
use Rattle.std.specs.Option.{option_map}
use Rattle.std.specs.Bool.{OnFalse}
use Rattle.std.proofs.Math.Bool.{or-false}
use Rattle.std.proofs.lemmas.Bool.{or_parts, eq-eqb, ne_eqb, false≢true}
use Rattle.std.proofs.lemmas.List.{append-nil, drop_at, take_at, length-replicate}
use Rattle.std.proofs.lemmas.List.Concat.{flat_map-append}
use Rattle.std.proofs.lemmas.List.Elements.{All-head, All-tail, filter_map-append}
use Rattle.std.proofs.lemmas.List.Folds.{list_any-append, list_any_none, list_any_at}
use Rattle.rtp_ext.specs.declared.form.ExtensionsForm.{ExtensionsForm}
use Rattle.rtp_ext.specs.declared.form.ExtensionsForm.TheVariants.{OneByte, TwoByte}
use Rattle.rtp_ext.specs.declared.place.Place.{Place}
use Rattle.rtp_ext.specs.Elements.{Element, IsElement, element_bytes, IsPiece, piece_bytes, AreElements}
use Rattle.rtp_ext.specs.ElementReading.{BeginsWithNoElement, elements_left}
use Rattle.rtp_ext.specs.ElementsInPlace.{bytes_under, renumbered, renumbered_bytes, ChangesIds, CanRenumber, HasNone, all_but}
use Rattle.rtp_ext.specs.ElementPlaces.{LiesAt, IsNextPlace, AreWhole}
use Rattle.rtp_ext.specs.IdChanges.{HasOtherIdsTo}
use Rattle.rtp_ext.proofs.ElementLemmas.{elements_left-padding}
use Rattle.rtp_ext.proofs.ElementLemmasOfBodies.{elements_left-element, AreElements-found}
use Rattle.rtp_ext.proofs.PlaceLemmas.{renumbered_next, left_next, end_next}
use Rattle.rtp_ext.proofs.PieceLemmas.{AllByRecursion-append, AreWhole-nil, AreWhole-append, AreWhole-zeros, AreWhole-element, AreElements-after, AreElements-none}
use Rattle.rtp_ext.proofs.LastPlaceLemmas.{AreElements-same}
use Rattle.rtp_ext.proofs.NewIdLemmas.{All-IsElement}
use Rattle.rtp_ext.proofs.PaddedPieceLemmas.{pieces_of_padding, pieces_with, are_padding, bytes_of_padding, bytes_with, elements_with}

-- what is read of padding, an element and what follows it
pub elements_left-next : (form : ExtensionsForm) (padding : ℕ) (element : Element) (after : List ℕ) → IsElement form element
    → elements_left form (replicate padding 0 ++ (element_bytes form element ++ after)) ≡ element ∷ elements_left form after
elements_left-next form zero element after is = elements_left-element form element after is
elements_left-next form (suc padding) element after is =
    elements_left-padding form (replicate padding 0 ++ (element_bytes form element ++ after)) ∙ elements_left-next form padding element after is

-- under another id, or as padding, an element has as many bytes
length-under : (form : ExtensionsForm) (element : Element) (id : Option ℕ) → length (bytes_under form element id) ≡ length (element_bytes form element)
length-under form element None = length-replicate {A = ℕ} (length (element_bytes form element)) 0
length-under OneByte element (Some id) = refl
length-under TwoByte element (Some id) = refl

-- ---- from the front of a body on

pub HasOtherIdsTo-start : (form : ExtensionsForm) (ids : ℕ → Option ℕ) (body : List ℕ) → All (λ element. IsElement form element → CanRenumber form ids element) (elements_left form body)
    → HasOtherIdsTo form ids body body 0 false
HasOtherIdsTo-start form ids body can = record {
  pieces = [];
  left = body;
  are_pieces = tt;
  old_is = refl;
  new_is = refl;
  at_is = refl;
  lost_is = refl;
  others = can;
}

-- the element at the next place may get its new id
pub can-next : {form : ExtensionsForm} {ids : ℕ → Option ℕ} {old body : List ℕ} {at : ℕ} {lost : Bool} {place : Place} → (was : HasOtherIdsTo form ids old body at lost)
    → (next : IsNextPlace form body at place)
    → All (λ element. IsElement form element → CanRenumber form ids element) ((place.id, next.bytes) ∷ elements_left form next.after)
can-next {form} {ids} {place} was next =
    subst (All (λ element. IsElement form element → CanRenumber form ids element))
    (ap (elements_left form) (left_next (flat_map (renumbered_bytes form ids) was.pieces) was.left was.new_is was.at_is next)
    ∙ elements_left-next form next.padding (place.id, next.bytes) next.after next.is_element)
    was.others

below_15 : (form : ExtensionsForm) (element : Element) → IsElement form element → form ≡ OneByte → element.0 ≤ 14
below_15 OneByte element is one = is.0
below_15 TwoByte element is one = cc

pub fits-next : {form : ExtensionsForm} {ids : ℕ → Option ℕ} {old body : List ℕ} {at : ℕ} {lost : Bool} {place : Place} (id : Option ℕ) → HasOtherIdsTo form ids old body at lost
    → IsNextPlace form body at place → id ≡ ids place.id → IfSome id (λ new. form ≡ OneByte → new ≤ 14)
fits-next None was next id_is = tt
fits-next {form} {ids} {place} (Some new) was next id_is =
    let can = All-head (λ (element : Element). IsElement form element → CanRenumber form ids element) (place.id, next.bytes) (elements_left form next.after)
    (can-next was next) next.is_element in
    below_15 form (new, next.bytes) (subst (λ i. IfSome i (λ k. IsElement form (k, next.bytes))) (sym id_is) can)

lost_next : (ids : ℕ → Option ℕ) (pieces : List (Option Element)) (padding : ℕ) (element : Element) {lost : Bool} {id : Option ℕ} → id ≡ ids element.0
    → lost ≡ list_any (λ (e : Element). is_none (ids e.0)) (filter_map (λ (piece : Option Element). piece) pieces)
    → (lost || is_none id) ≡ list_any (λ (e : Element). is_none (ids e.0)) (filter_map (λ (piece : Option Element). piece) (pieces_with pieces padding element))
lost_next ids pieces padding element {id} id_is lost_is =
    let loses : Element → Bool = λ e. is_none (ids e.0) in
    let had : List Element = filter_map (λ (piece : Option Element). piece) pieces in
    ap (λ b. b || is_none id) lost_is
    ∙ (ap (λ i. list_any loses had || is_none i) id_is
    ∙ (ap (λ b. list_any loses had || b) (sym (or-false (is_none (ids element.0))))
    ∙ (sym (list_any-append loses had (element ∷ [])) ∙ ap (list_any loses) (sym (elements_with pieces padding element)))))

pub HasOtherIdsTo-next : {form : ExtensionsForm} {ids : ℕ → Option ℕ} {old body : List ℕ} (new : List ℕ) {at : ℕ} {lost : Bool} {place : Place} {id : Option ℕ} → at ≤ length body
    → HasOtherIdsTo form ids old body at lost → (next : IsNextPlace form body at place) → id ≡ ids place.id
    → ((lies : LiesAt form body place) → new ≡ lies.front ++ (bytes_under form (place.id, lies.bytes) id ++ lies.after))
    → HasOtherIdsTo form ids old new place.end (lost || is_none id)
HasOtherIdsTo-next {form} {ids} {body} new {at} {place} {id} within was next id_is written =
    let element : Element = (place.id, next.bytes) in
    let passed : List ℕ = flat_map (renumbered_bytes form ids) was.pieces in
    let left_is : was.left ≡ replicate next.padding 0 ++ (element_bytes form element ++ next.after) =
    left_next passed was.left was.new_is was.at_is next in
    let front : take at body ≡ passed = ap (take at) was.new_is ∙ take_at passed was.left at (sym was.at_is) in
    let bytes : List ℕ = bytes_under form element (ids place.id) in
    let old_bytes : flat_map (piece_bytes form) (pieces_with was.pieces next.padding element)
    ≡ flat_map (piece_bytes form) was.pieces ++ (replicate next.padding 0 ++ element_bytes form element) =
    bytes_with (piece_bytes form) was.pieces next.padding element refl in
    let new_bytes : flat_map (renumbered_bytes form ids) (pieces_with was.pieces next.padding element) ≡ passed ++ (replicate next.padding 0 ++ bytes) =
    bytes_with (renumbered_bytes form ids) was.pieces next.padding element refl in
    record {
      pieces = pieces_with was.pieces next.padding element;
      left = next.after;
      are_pieces = AllByRecursion-append (IsPiece form) was.pieces (pieces_of_padding next.padding ++ Some element ∷ []) was.are_pieces
          (AllByRecursion-append (IsPiece form) (pieces_of_padding next.padding) (Some element ∷ []) (are_padding form next.padding) (next.is_element, tt));
      old_is = was.old_is ∙ (ap (λ b. flat_map (piece_bytes form) was.pieces ++ b)
          (left_is ∙ sym (append_assoc (replicate next.padding 0) (element_bytes form element) next.after))
          ∙ (sym (append_assoc (flat_map (piece_bytes form) was.pieces) (replicate next.padding 0 ++ element_bytes form element) next.after)
          ∙ ap (λ b. b ++ next.after) (sym old_bytes)));
      new_is = renumbered_next new id within next written ∙ (ap (λ i. (take at body ++ replicate next.padding 0) ++ (bytes_under form element i ++ next.after)) id_is
          ∙ (ap (λ b. (b ++ replicate next.padding 0) ++ (bytes ++ next.after)) front
          ∙ (append_assoc passed (replicate next.padding 0) (bytes ++ next.after)
          ∙ (ap (λ b. passed ++ b) (sym (append_assoc (replicate next.padding 0) bytes next.after))
          ∙ (sym (append_assoc passed (replicate next.padding 0 ++ bytes) next.after)
          ∙ ap (λ b. b ++ next.after) (sym new_bytes))))));
      at_is = omega (
        arith,
        end_next passed was.at_is next,
        length-append passed (replicate next.padding 0 ++ element_bytes form element),
        length-append (replicate next.padding 0) (element_bytes form element),
        ap length new_bytes,
        length-append passed (replicate next.padding 0 ++ bytes),
        length-append (replicate next.padding 0) bytes,
        length-under form element (ids place.id),
      );
      lost_is = lost_next ids was.pieces next.padding element id_is was.lost_is;
      others = All-tail (λ (e : Element). IsElement form e → CanRenumber form ids e) element (elements_left form next.after)
          (can-next was next);
    }

-- ---- where reading ends

pub HasOtherIdsTo-end : {form : ExtensionsForm} {ids : ℕ → Option ℕ} {old body : List ℕ} {at : ℕ} {lost : Bool} → HasOtherIdsTo form ids old body at lost
    → BeginsWithNoElement form (drop at body) → ChangesIds form ids old body
HasOtherIdsTo-end {form} {ids} {at} was none =
    let left_is : was.left ≡ replicate none.padding 0 ++ none.tail =
    sym (ap (drop at) was.new_is ∙ drop_at (flat_map (renumbered_bytes form ids) was.pieces) was.left at (sym was.at_is)) ∙ none.bytes_are in
    let bytes : (f : Option Element → List ℕ) → f None ≡ 0 ∷ [] → flat_map f was.pieces ++ was.left ≡ flat_map f (was.pieces ++ pieces_of_padding none.padding) ++ none.tail =
    λ f zero_is. ap (λ b. flat_map f was.pieces ++ b) left_is
    ∙ (sym (append_assoc (flat_map f was.pieces) (replicate none.padding 0) none.tail)
    ∙ ap (λ b. b ++ none.tail) (ap (λ b. flat_map f was.pieces ++ b) (sym (bytes_of_padding f none.padding zero_is))
    ∙ sym (flat_map-append f was.pieces (pieces_of_padding none.padding)))) in
    record {
      pieces = was.pieces ++ pieces_of_padding none.padding;
      tail = none.tail;
      are_pieces = AllByRecursion-append (IsPiece form) was.pieces (pieces_of_padding none.padding) was.are_pieces (are_padding form none.padding);
      is_tail = none.is_tail;
      old_is = was.old_is ∙ bytes (piece_bytes form) refl;
      new_is = was.new_is ∙ bytes (renumbered_bytes form ids) refl;
    }

-- whether one of the elements that the body had is padding
pub lost-end : {form : ExtensionsForm} {ids : ℕ → Option ℕ} {old body : List ℕ} {at : ℕ} {lost : Bool} {elements : List Element} → HasOtherIdsTo form ids old body at lost
    → BeginsWithNoElement form (drop at body) → AreElements form old elements → lost ≡ list_any (λ (e : Element). is_none (ids e.0)) elements
lost-end {form} {ids} {old} {at} {elements} was none are =
    let had : List Element = filter_map (λ piece. piece) was.pieces in
    let left : AreElements form was.left [] =
    subst (λ b. AreElements form b []) (ap (drop at) was.new_is ∙ drop_at (flat_map (renumbered_bytes form ids) was.pieces) was.left at (sym was.at_is))
    (AreElements-none none) in
    let all : AreElements form old (had ++ []) =
    subst (λ b. AreElements form b (had ++ [])) (sym was.old_is)
    (AreElements-after form (flat_map (piece_bytes form) was.pieces) was.left had []
    (record { pieces = was.pieces; are_pieces = was.are_pieces; bytes_are = refl; elements_are = refl }) left) in
    was.lost_is ∙ ap (list_any (λ (e : Element). is_none (ids e.0))) (sym (append-nil had) ∙ AreElements-same form old (had ++ []) elements all are)

-- ---- the elements afterwards

CanRenumber-piece : (form : ExtensionsForm) (ids : ℕ → Option ℕ) (element : Element) (id : Option ℕ) → IfSome id (λ new. IsElement form (new, element.1))
    → id ≡ ids element.0 → AreWhole form (bytes_under form element id) (filter_map (renumbered ids) (element ∷ []))
CanRenumber-piece form ids element None can id_is =
    subst (AreWhole form (replicate (length (element_bytes form element)) 0)) (ap (λ i. cons_option (option_map (λ k. (k, element.1)) i) []) id_is)
    (AreWhole-zeros form (length (element_bytes form element)))
CanRenumber-piece form ids element (Some new) can id_is =
    subst (AreWhole form (element_bytes form (new, element.1))) (ap (λ i. cons_option (option_map (λ k. (k, element.1)) i) []) id_is)
    (AreWhole-element form (new, element.1) can)

AreWhole-renumbered : (form : ExtensionsForm) (ids : ℕ → Option ℕ) (pieces : List (Option Element)) → AllByRecursion (IsPiece form) pieces
    → All (λ element. IsElement form element → CanRenumber form ids element) (filter_map (λ piece. piece) pieces)
    → AreWhole form (flat_map (renumbered_bytes form ids) pieces) (filter_map (renumbered ids) (filter_map (λ piece. piece) pieces))
AreWhole-renumbered form ids [] are can = AreWhole-nil form
AreWhole-renumbered form ids (None ∷ pieces) are can = AreWhole-append
    (AreWhole-zeros form 1) (AreWhole-renumbered form ids pieces are.1 can)
AreWhole-renumbered form ids (Some element ∷ pieces) are can =
    let rest : List Element = filter_map (λ piece. piece) pieces in
    let here : CanRenumber form ids element = All-head (λ (e : Element). IsElement form e → CanRenumber form ids e) element rest can are.0 in
    subst (AreWhole form (bytes_under form element (ids element.0) ++ flat_map (renumbered_bytes form ids) pieces))
    (sym (filter_map-append (renumbered ids) (element ∷ []) rest))
    (AreWhole-append (CanRenumber-piece form ids element (ids element.0) here refl)
    (AreWhole-renumbered form ids pieces are.1 (All-tail (λ (e : Element). IsElement form e → CanRenumber form ids e) element rest can)))

-- the elements that the body had
AreElements-had : {form : ExtensionsForm} {ids : ℕ → Option ℕ} {old new : List ℕ} (has : ChangesIds form ids old new) → AreElements form old (filter_map (λ piece. piece) has.pieces)
AreElements-had has =
    record { pieces = has.pieces; tail = has.tail; are_pieces = has.are_pieces; is_tail = has.is_tail; body_is = has.old_is; elements_are = refl }

pub AreElements-renumbered : {form : ExtensionsForm} {ids : ℕ → Option ℕ} {old new : List ℕ} {elements : List Element} → ChangesIds form ids old new → AreElements form old elements
    → All (λ element. IsElement form element → CanRenumber form ids element) elements → AreElements form new (filter_map (renumbered ids) elements)
AreElements-renumbered {form} {ids} {old} {elements} has are can =
    let had : List Element = filter_map (λ piece. piece) has.pieces in
    let same : elements ≡ had = AreElements-same form old elements had are (AreElements-had has) in
    let whole : AreWhole form (flat_map (renumbered_bytes form ids) has.pieces) (filter_map (renumbered ids) had) =
    AreWhole-renumbered form ids has.pieces has.are_pieces (subst (All (λ element. IsElement form element → CanRenumber form ids element)) same can) in
    let none : AreElements form has.tail [] =
    record { pieces = []; tail = has.tail; are_pieces = tt; is_tail = has.is_tail; body_is = refl; elements_are = refl } in
    subst (λ b. AreElements form b (filter_map (renumbered ids) elements)) (sym has.new_is)
    (subst (AreElements form (flat_map (renumbered_bytes form ids) has.pieces ++ has.tail))
    (append-nil (filter_map (renumbered ids) had) ∙ ap (filter_map (renumbered ids)) (sym same))
    (AreElements-after form (flat_map (renumbered_bytes form ids) has.pieces) has.tail (filter_map (renumbered ids) had) [] whole none))

pub may-can : (form : ExtensionsForm) (ids : ℕ → Option ℕ) (elements : List Element) → All (CanRenumber form ids) elements
    → All (λ element. IsElement form element → CanRenumber form ids element) elements
may-can form ids elements can = λ k d here is. can k d here

-- the one-byte form can carry the new ids of a body's elements where it can carry those of all ids that they can have
can-short : (element : Element) (id : Option ℕ) → IsElement OneByte element → IfSome id (λ new. (1 ≤ new) × (new ≤ 14)) → IfSome id (λ new. IsElement OneByte (new, element.1))
can-short element None is short = tt
can-short element (Some new) is short = (short.1, is.1, is.2, omega (arith, short.0))

pub all-can : (form : ExtensionsForm) (ids : ℕ → Option ℕ) (body : List ℕ) → form ≡ OneByte → ((i : ℕ) → get_or body i 0 < 256)
    → ((id : ℕ) → id ≤ 14 → IfSome (ids id) (λ new. (1 ≤ new) × (new ≤ 14))) → All (CanRenumber form ids) (elements_left form body)
all-can OneByte ids body form_is bytes short = λ k d here.
    let elements : List Element = elements_left OneByte body in
    let is : IsElement OneByte (get_or elements k d) = All-IsElement OneByte body elements (AreElements-found OneByte body bytes) k d here in
    can-short (get_or elements k d) (ids (get_or elements k d).0) is (short (get_or elements k d).0 is.0)
all-can TwoByte ids body form_is bytes short = cc

-- ---- all ids but one

is_none-all_but : (id k : ℕ) → is_none (all_but id k) ≡ (k == id)
is_none-all_but id k = elim (k == id) as (λ b. is_none (if b then None else Some k) ≡ b) [ true ↦ refl | false ↦ refl ]

all_but-carried : (form : ExtensionsForm) (id : ℕ) (element : Element) → IsElement form element → CanRenumber form (all_but id) element
all_but-carried form id element is =
    elim (element.0 == id) as (λ b. IfSome (if b then None else Some element.0) (λ k. IsElement form (k, element.1))) [ true ↦ tt | false ↦ is ]

pub all_but-carries : (form : ExtensionsForm) (id : ℕ) (elements : List Element) → All (λ element. IsElement form element → CanRenumber form (all_but id) element) elements
all_but-carries form id elements = λ k d here. all_but-carried form id (get_or elements k d)

-- an element of the id becomes padding, and no other
pub lost-all_but : (id : ℕ) (elements : List Element) (lost : Bool) → lost ≡ list_any (λ (e : Element). is_none (all_but id e.0)) elements
    → IsTrue lost ↔ (HasNone elements id → ⊥)
lost-all_but id elements true is = (
  λ yes none. false≢true (sym (is ∙ list_any_none (λ (e : Element). is_none (all_but id e.0)) elements
      (λ k d here. is_none-all_but id (get_or elements k d).0 ∙ ne_eqb (get_or elements k d).0 id (none k d here)))),
  λ some. refl,
)
lost-all_but id elements false is = (
  λ yes. absurd (false≢true yes),
  λ some. absurd (some (λ k d here same. false≢true (is ∙ list_any_at (λ (e : Element). is_none (all_but id e.0)) elements k d here
      (is_none-all_but id (get_or elements k d).0 ∙ eq-eqb (get_or elements k d).0 id same)))),
)

-- where none does, all bytes stay
unchanged_pieces : (form : ExtensionsForm) (id : ℕ) (pieces : List (Option Element))
    → list_any (λ (e : Element). is_none (all_but id e.0)) (filter_map (λ (piece : Option Element). piece) pieces) ≡ false
    → flat_map (renumbered_bytes form (all_but id)) pieces ≡ flat_map (piece_bytes form) pieces
unchanged_pieces form id [] none = refl
unchanged_pieces form id (None ∷ pieces) none = ap (λ b. 0 ∷ b) (unchanged_pieces form id pieces none)
unchanged_pieces form id (Some element ∷ pieces) none =
    let both = or_parts (is_none (all_but id element.0)) (list_any (λ (e : Element). is_none (all_but id e.0)) (filter_map (λ (piece : Option Element). piece) pieces)) none in
    let kept : all_but id element.0 ≡ Some element.0 = ap (λ b. if b then None else Some element.0) (sym (is_none-all_but id element.0) ∙ both.0) in
    ap (λ i. bytes_under form element i ++ flat_map (renumbered_bytes form (all_but id)) pieces) kept
    ∙ ap (λ b. element_bytes form element ++ b) (unchanged_pieces form id pieces both.1)

pub unchanged-all_but : {form : ExtensionsForm} (id : ℕ) {old new : List ℕ} (lost : Bool) → ChangesIds form (all_but id) old new
    → ((elements : List Element) → AreElements form old elements → lost ≡ list_any (λ (e : Element). is_none (all_but id e.0)) elements) → OnFalse lost (new ≡ old)
unchanged-all_but id true has lost_is = tt
unchanged-all_but {form} id false has lost_is =
    has.new_is ∙ (ap (λ b. b ++ has.tail) (unchanged_pieces form id has.pieces (sym (lost_is (filter_map (λ piece. piece) has.pieces) (AreElements-had has))))
    ∙ sym has.old_is)
