-- The elements of a group's block, once some of them are written.
use Rattle.std.proofs.Common.{◌≡◌, ◌≢◌, ℕ, ◌+◌, ◌≤◌, Bool, true, false, cond, List, [], ◌∷◌, ◌++◌, drop, get_or, Option, Some, None, IfSome, option_map, All, refl, sym, ap, subst, ◌∙◌, arith, append-nil}
use Rattle.std.specs.Borrow.{Bor}
use Rattle.std.specs.List.{filter_map, list_any, cons_option}
use Rattle.std.proofs.lemmas.Bool.{eq-eqb, false≢true}
use Rattle.std.proofs.lemmas.List.{map-append}
use Rattle.std.proofs.lemmas.List.Elements.{All-nil, All-cons, All-head, All-tail, All-push, filter_map-append}
use Rattle.rtp_ext.specs.declared.form.ExtensionsForm.{ExtensionsForm}
use Rattle.rtp_ext.specs.Elements.{Element, IsElement}
use Rattle.rtp_ext.specs.ElementsInARow.{elements_of, IsWritable}
use Rattle.rtp_ext.specs.ElementsInPlace.{HasNone, renumbered, CanRenumber}
use Rattle.rtp_ext.specs.PutElement.{has_id, put_element}
use Rattle.rtp_ext.proofs.PutLemmas.{without-none, put_element-none, put_element-last}
use Rattle.rtp_route.specs.declared.slots.Slot.{Slot}
use Rattle.rtp_route.specs.Routing.{put_all}
use Rattle.rtp_route.specs.Template.{IsSlot}
use Rattle.rtp_route.specs.Walk.{ArePlaced, AreWritten, AreLike, AreKept}
use Rattle.rtp_route.proofs.WalkLemmas.{OfOther, no_place, placed-at, place, written-none}

-- ---- elements that are put among others

-- one that is there and the only one of its id
pub put-there : (form : ExtensionsForm) (start : ℕ) (written : List Element) (new : Element) (slot : Slot) → IsSlot form start written new slot → put_element new written ≡ written
put-there form start written new slot is =
    ap (put_element new) is.in_order
    ∙ put_element-last new.0 new.1 new.1 is.before is.after is.none_after
    ∙ ap (λ (es : List Element). es ++ new ∷ is.after) (without-none new.0 is.before is.none_before)
    ∙ sym is.in_order

pub like-push : (news elements others : List Element) (element other : Element) → AreLike news elements others → element.0 ≡ other.0 → (HasNone news other.0 → element ≡ other)
    → AreLike news (elements ++ element ∷ []) (others ++ other ∷ [])
like-push news [] [] element other like same else = (same, else, tt)
like-push news [] (y ∷ others) element other like same else = absurd like
like-push news (x ∷ elements) [] element other like same else = absurd like
like-push news (x ∷ elements) (y ∷ others) element other like same else = (like.0, like.1, like-push news elements others element other like.2 same else)

-- the same ids
pub like-none : (id : ℕ) (news elements others : List Element) → AreLike news elements others → HasNone elements id → HasNone others id
like-none id news [] [] like none = All-nil (OfOther id)
like-none id news [] (y ∷ others) like none = absurd like
like-none id news (x ∷ elements) [] like none = absurd like
like-none id news (x ∷ elements) (y ∷ others) like none =
    All-cons (OfOther id) y others (λ same. All-head (OfOther id) x elements none (like.0 ∙ same)) (like-none id news elements others like.2 (All-tail (OfOther id) x elements none))

-- what can be written has another id than 0
pub written-no_zero : (form : ExtensionsForm) (elements : List Element) → All (IsWritable form) elements → HasNone elements 0
written-no_zero form [] all = All-nil (OfOther 0)
written-no_zero form (element ∷ elements) all =
    let can : IsWritable form element = All-head (IsWritable form) element elements all in
    All-cons (OfOther 0) element elements (λ zero_is. omega (arith, can.0, zero_is)) (written-no_zero form elements (All-tail (IsWritable form) element elements all))

-- what is put makes them the same
like-same : (elements others : List Element) → AreLike [] elements others → elements ≡ others
like-same [] [] like = refl
like-same [] (y ∷ others) like = absurd like
like-same (x ∷ elements) [] like = absurd like
like-same (x ∷ elements) (y ∷ others) like = ap (λ (e : Element). e ∷ elements) (like.1 (All-nil (OfOther y.0))) ∙ ap (λ (es : List Element). y ∷ es) (like-same elements others like.2)

like-any : (id : ℕ) (news elements others : List Element) → AreLike news elements others → list_any (has_id id) elements ≡ list_any (has_id id) others
like-any id news [] [] like = refl
like-any id news [] (y ∷ others) like = absurd like
like-any id news (x ∷ elements) [] like = absurd like
like-any id news (x ∷ elements) (y ∷ others) like = by_both (has_id id x) (has_id id y) (ap (λ (k : ℕ). has_id id (k, x.1)) like.0) (like-any id news elements others like.2)
  where
    by_both : (a b : Bool) → a ≡ b → list_any (has_id id) elements ≡ list_any (has_id id) others → list_any (has_id id) (x ∷ elements) ≡ list_any (has_id id) (y ∷ others)
    by_both a b same rest = cc

-- of another id than one that is put
like-less : (new : Element) (news elements others : List Element) → HasNone others new.0 → AreLike (new ∷ news) elements others → AreLike news elements others
like-less new news [] [] none like = tt
like-less new news [] (y ∷ others) none like = absurd like
like-less new news (x ∷ elements) [] none like = absurd like
like-less new news (x ∷ elements) (y ∷ others) none like = (
  like.0,
  λ no_new. like.1 (All-cons (OfOther y.0) new news (λ same. All-head (OfOther new.0) y others none (sym same)) no_new),
  like-less new news elements others (All-tail (OfOther new.0) y others none) like.2,
)

none-any : (id : ℕ) (elements : List Element) → list_any (has_id id) elements ≡ false → HasNone elements id
none-any id [] is = All-nil (OfOther id)
none-any id (element ∷ elements) is = by_test (has_id id element) refl (λ rest. none-any id elements rest)
  where
    by_test : (b : Bool) → has_id id element ≡ b → (list_any (has_id id) elements ≡ false → HasNone elements id) → HasNone (element ∷ elements) id
    by_test true here later = absurd cc
    by_test false here later =
        let rest : list_any (has_id id) elements ≡ false = cc in
        All-cons (OfOther id) element elements (λ same. false≢true (sym here ∙ eq-eqb element.0 id same)) (later rest)

like-put : (new : Element) (news elements others : List Element) → AreLike (new ∷ news) elements others → AreLike news (put_element new elements) (put_element new others)
like-put new news [] [] like = (refl, λ none. refl, tt)
like-put new news [] (y ∷ others) like = absurd like
like-put new news (x ∷ elements) [] like = absurd like
like-put new news (x ∷ elements) (y ∷ others) like =
    by_test (has_id new.0 y) (list_any (has_id new.0) others) refl refl (ap (λ (k : ℕ). has_id new.0 (k, x.1)) like.0) (like-any new.0 (new ∷ news) elements others like.2)
    (like-put new news elements others like.2) (λ none. like-less new news elements others (none-any new.0 others none) like.2)
  where
    either : List Element → Element → List Element → Bool → Bool → List Element
    either put e es a b = cond a (cond b put (new ∷ es)) (e ∷ put)

    both : (a b c d : Bool) → has_id new.0 x ≡ a → list_any (has_id new.0) elements ≡ b → has_id new.0 y ≡ c → list_any (has_id new.0) others ≡ d
        → AreLike news (either (put_element new elements) x elements a b) (either (put_element new others) y others c d)
        → AreLike news (put_element new (x ∷ elements)) (put_element new (y ∷ others))
    both a b c d a-is b-is c-is d-is is =
        subst (λ (k : Bool). AreLike news (either (put_element new elements) x elements k (list_any (has_id new.0) elements)) (put_element new (y ∷ others))) (sym a-is)
        (subst (λ (k : Bool). AreLike news (either (put_element new elements) x elements a k) (put_element new (y ∷ others))) (sym b-is)
        (subst (λ (k : Bool). AreLike news (either (put_element new elements) x elements a b) (either (put_element new others) y others k (list_any (has_id new.0) others))) (sym c-is)
        (subst (λ (k : Bool). AreLike news (either (put_element new elements) x elements a b) (either (put_element new others) y others c k)) (sym d-is) is)))

    by_test : (a b : Bool) → has_id new.0 y ≡ a → list_any (has_id new.0) others ≡ b → has_id new.0 x ≡ has_id new.0 y → list_any (has_id new.0) elements ≡ list_any (has_id new.0) others
        → AreLike news (put_element new elements) (put_element new others) → (list_any (has_id new.0) others ≡ false → AreLike news elements others)
        → AreLike news (put_element new (x ∷ elements)) (put_element new (y ∷ others))
    by_test true true a-is b-is a-same b-same rest less = both true true true true (a-same ∙ a-is) (b-same ∙ b-is) a-is b-is rest
    by_test true false a-is b-is a-same b-same rest less = both true false true false (a-same ∙ a-is) (b-same ∙ b-is) a-is b-is (refl, λ none. refl, less b-is)
    by_test false b a-is b-is a-same b-same rest less =
        both false b false b (a-same ∙ a-is) (b-same ∙ b-is) a-is b-is
        (like.0, λ none. like.1 (All-cons (OfOther y.0) new news (λ same. false≢true (sym a-is ∙ eq-eqb y.0 new.0 (sym same))) none), rest)

pub put_all-like : (news elements others : List Element) → AreLike news elements others → put_all news elements ≡ put_all news others
put_all-like [] elements others like = like-same elements others like
put_all-like (new ∷ news) elements others like = put_all-like news (put_element new elements) (put_element new others) (like-put new news elements others like)

-- ---- those of the group that are lacking

-- the elements before the index are put among these
pub record IsUnderWay (form : ExtensionsForm) (start : ℕ) (news : List Element) (index : ℕ) (old : List ℕ) (before : List Element) (slots : List Slot) (buf : List ℕ) (at : ℕ) : Type 0 where
  pub written : List Element
  pub with_rest : put_all (drop index news) written ≡ put_all news before
  pub are_written : AreWritten form start news old written slots buf at

-- the next one has no place
pub under_way-lacking : (form : ExtensionsForm) (start : ℕ) (news : List Element) (index : ℕ) (old : List ℕ) (before : List Element) (slots more : List Slot) (buf new : List ℕ) (at end : ℕ) (element : Element)
    (slot : Slot) → 1 ≤ start → IsUnderWay form start news index old before slots buf at → drop index news ≡ element ∷ drop (index + 1) news → (get_or slots index slot).start ≡ 0
    → ((written : List Element) → AreWritten form start news old written slots buf at → HasNone written element.0 → AreWritten form start news old (written ++ element ∷ []) more new end)
    → IsUnderWay form start news (index + 1) old before more new end
under_way-lacking form start news index old before slots more buf new at end element slot some is there none writes =
    let no_other : HasNone is.written element.0 =
    no_place form start is.written element (get_or slots index slot) some
    (placed-at form start is.written news slots index element (drop (index + 1) news) slot is.are_written.placed there) none in
    record {
      written = is.written ++ element ∷ [];
      with_rest = ap (put_all (drop (index + 1) news)) (sym (put_element-none element is.written no_other)) ∙ ap (λ (es : List Element). put_all es is.written) (sym there) ∙ is.with_rest;
      are_written = writes is.written is.are_written no_other;
    }

-- it has one
pub under_way-there : (form : ExtensionsForm) (start : ℕ) (news : List Element) (index : ℕ) (old : List ℕ) (before : List Element) (slots : List Slot) (buf : List ℕ) (at : ℕ) (element : Element) (slot : Slot)
    → IsUnderWay form start news index old before slots buf at → drop index news ≡ element ∷ drop (index + 1) news → (get_or slots index slot).start ≢ 0
    → IsUnderWay form start news (index + 1) old before slots buf at
under_way-there form start news index old before slots buf at element slot is there some =
    let lies : IsSlot form start is.written element (get_or slots index slot) =
    place form start is.written element (get_or slots index slot)
    (placed-at form start is.written news slots index element (drop (index + 1) news) slot is.are_written.placed there) some in
    record {
      written = is.written;
      with_rest = ap (put_all (drop (index + 1) news)) (sym (put-there form start is.written element (get_or slots index slot) lies)) ∙ ap (λ (es : List Element). put_all es is.written) (sym there) ∙ is.with_rest;
      are_written = is.are_written;
    }

-- ---- the packet's elements, of which these were read

pub kept-start : (form : ExtensionsForm) (ids : ℕ → Option ℕ) (news : List Element) (start : ℕ) (old : List ℕ) (slots : List Slot) → ArePlaced form start [] news slots
    → AreKept form ids news [] start old slots old start
kept-start form ids news start old slots placed = record {
  written = [];
  like = tt;
  carried = All-nil (CanRenumber form ids);
  are_written = written-none form start news old slots placed;
}

-- an element as it is read
abbrev Lent : Type 0
Lent = ℕ × Bor (List ℕ)

abbrev element_of : Lent → Element
element_of lent = (lent.0, lent.1.now)

read-more : (read : List Lent) (item : Lent) → elements_of (read ++ item ∷ []) ≡ elements_of read ++ element_of item ∷ []
read-more read item = map-append element_of read (item ∷ [])

-- one with a new id
pub kept-new : (form : ExtensionsForm) (ids : ℕ → Option ℕ) (news : List Element) (start : ℕ) (old : List ℕ) (slots more : List Slot) (buf after : List ℕ) (at end new : ℕ) (read : List Lent) (item : Lent)
    → AreKept form ids news (elements_of read) start old slots buf at → ids item.0 ≡ Some new → IsWritable form (new, item.1.now)
    → ((written : List Element) → AreWritten form start news old written slots buf at
    → (element : Element) × (element.0 ≡ new) × (HasNone news new → element ≡ (new, item.1.now)) × AreWritten form start news old (written ++ element ∷ []) more after end)
    → AreKept form ids news (elements_of (read ++ item ∷ [])) start old more after end
kept-new form ids news start old slots more buf after at end new read item is some can writes =
    let next = writes is.written is.are_written in
    let renumbers : filter_map (renumbered ids) (element_of item ∷ []) ≡ (new, item.1.now) ∷ [] =
    ap (λ (o : Option ℕ). cons_option (option_map (λ (k : ℕ). (k, item.1.now)) o) []) some in
    let all : filter_map (renumbered ids) (elements_of (read ++ item ∷ [])) ≡ filter_map (renumbered ids) (elements_of read) ++ (new, item.1.now) ∷ [] =
    ap (filter_map (renumbered ids)) (read-more read item) ∙ filter_map-append (renumbered ids) (elements_of read) (element_of item ∷ [])
    ∙ ap (λ (es : List Element). filter_map (renumbered ids) (elements_of read) ++ es) renumbers in
    record {
      written = is.written ++ next.0 ∷ [];
      like = subst (AreLike news (is.written ++ next.0 ∷ [])) (sym all)
          (like-push news is.written (filter_map (renumbered ids) (elements_of read)) next.0 (new, item.1.now) is.like next.1 next.2);
      carried = subst (All (CanRenumber form ids)) (sym (read-more read item))
          (All-push (CanRenumber form ids) (elements_of read) (element_of item) is.carried
          (subst (λ (o : Option ℕ). IfSome o (λ id. IsElement form (id, item.1.now))) (sym some) can.1));
      are_written = next.3;
    }

-- one without
pub kept-none : (form : ExtensionsForm) (ids : ℕ → Option ℕ) (news : List Element) (start : ℕ) (old : List ℕ) (slots : List Slot) (buf : List ℕ) (at : ℕ) (read : List Lent) (item : Lent)
    → AreKept form ids news (elements_of read) start old slots buf at → ids item.0 ≡ None → AreKept form ids news (elements_of (read ++ item ∷ [])) start old slots buf at
kept-none form ids news start old slots buf at read item is none =
    let all : filter_map (renumbered ids) (elements_of (read ++ item ∷ [])) ≡ filter_map (renumbered ids) (elements_of read) =
    ap (filter_map (renumbered ids)) (read-more read item) ∙ filter_map-append (renumbered ids) (elements_of read) (element_of item ∷ [])
    ∙ ap (λ (o : Option ℕ). filter_map (renumbered ids) (elements_of read) ++ cons_option (option_map (λ (k : ℕ). (k, item.1.now)) o) []) none
    ∙ append-nil (filter_map (renumbered ids) (elements_of read)) in
    record {
      written = is.written;
      like = subst (AreLike news is.written) (sym all) is.like;
      carried = subst (All (CanRenumber form ids)) (sym (read-more read item))
          (All-push (CanRenumber form ids) (elements_of read) (element_of item) is.carried (subst (λ (o : Option ℕ). IfSome o (λ id. IsElement form (id, item.1.now))) (sym none) tt));
      are_written = is.are_written;
    }
