-- What a change of the list, or of the places in it, changes.
use Rattle.std.proofs.Common.{◌≡◌, ◌≢◌, ℕ, ◌+◌, ◌-◌, ◌<◌, ◌≤◌, Bool, true, false, cond, eqb, ltb, List, [], ◌∷◌, ◌++◌, length, get_or, set, refl, sym, ap, ◌∙◌, subst, inl, inr, arith, get_or-set_same, get_or-set_other}
use Rattle.std.specs.Prelude.{Option, Some, None, IsSome, IfSome, IfNone}
use Rattle.std.specs.Option.{option_map}
use Rattle.std.specs.Map.{lookup}
use Rattle.std.specs.Ordering.{nat_cmp, is_eq}
use Rattle.std.specs.declared.cmp.Ordering.TheVariants.{Less, Equal, Greater}
use Rattle.std.specs.BTreeMap.{BTreeMap, Updates, is_at, get}
use Rattle.std.proofs.lemmas.Bool.{ne_eqb, cases_eq, cases_lt}
use Rattle.std.proofs.lemmas.Option.{none-some}
use Rattle.std.proofs.lemmas.List.{length_push, get_or_append_left, get_or_at}
use Rattle.std.proofs.lemmas.Map.Made.{lookup-map_values}
use Rattle.rtp_receive.specs.StreamState.{ReceiverState}
use Rattle.rtp_receive.specs.SourcePlaces.{past_the_end, source_at, held_at, held, held_of, ArePlaces}

-- a value isn't both there and not
pub is_none : {A : Type 0} (value : Option A) → value ≡ None → IsSome value → ⊥
is_none value none known = cc (none, known)

not_equal : (below same : Bool) → same ≡ false → is_eq (cond below Less (cond same Equal Greater)) ≡ false
not_equal true same other = refl
not_equal false same other = ap (λ (b : Bool). is_eq (cond b Equal Greater)) other

pub is_other : (source other : ℕ) → other ≢ source → is_at (nat_cmp source) other ≡ false
is_other source other apart = not_equal (ltb source other) (eqb source other) (ne_eqb source other (λ same. apart (sym same)))

-- what is held for a source is what stands at its place
pub held_of-place : (places : BTreeMap ℕ ℕ) (list : List (ℕ × ReceiverState)) (source : ℕ) → lookup (is_at (nat_cmp source)) (held places list) ≡ option_map (held_at list) (get nat_cmp places source)
held_of-place places list source = lookup-map_values (held_at list) (is_at (nat_cmp source)) places.entries

some-same : (a b : ℕ) → Some a ≡ Some b → a ≡ b
some-same a b same = cc same

-- two sources at one place are one
pub one_source : (places : BTreeMap ℕ ℕ) (list : List (ℕ × ReceiverState)) (a b place : ℕ) → ArePlaces places list → get nat_cmp places a ≡ Some place → get nat_cmp places b ≡ Some place → a ≡ b
one_source places list a b place are first second = sym (are.found a place first).1 ∙ (are.found b place second).1

-- ---- where a source stands

-- a source has the place where it stands
pub get-place : (places : BTreeMap ℕ ℕ) (list : List (ℕ × ReceiverState)) (source place : ℕ) → ArePlaces places list → (place < length list) × (source_at list place ≡ source) → get nat_cmp places source ≡ Some place
get-place places list source place are stands = subst (λ (s : ℕ). get nat_cmp places s ≡ Some place) stands.1 (are.placed place stands.0)

not_some : (o : Option ℕ) → ((place : ℕ) → o ≡ Some place → ⊥) → o ≡ None
not_some None never = refl
not_some (Some place) never = absurd (never place refl)

-- what a look through the list says is the place of the source
pub looked_through : (places : BTreeMap ℕ ℕ) (list : List (ℕ × ReceiverState)) (source : ℕ) (result : Option ℕ) → ArePlaces places list
    → IfSome result (λ place. (place < length list) × (source_at list place ≡ source))
    → IfNone result ((place : ℕ) → place < length list → source_at list place ≢ source)
    → result ≡ get nat_cmp places source
looked_through places list source None are stands apart = sym (not_some (get nat_cmp places source) (λ place is. let old = are.found source place is in apart place old.0 old.1))
looked_through places list source (Some place) are stands apart = sym (get-place places list source place are stands)

-- ---- one receiver changes

source_kept : (list : List (ℕ × ReceiverState)) (place : ℕ) (changed : ℕ × ReceiverState) (k : ℕ) → place < length list → changed.0 ≡ source_at list place → source_at (set list place changed) k ≡ source_at list k
source_kept list place changed k here same = elim (cases_eq k place) [
  | inl at ↦ subst (λ (i : ℕ). source_at (set list place changed) i ≡ source_at list i) (sym at) (ap (λ (e : ℕ × ReceiverState). e.0) (get_or-set_same list place changed past_the_end here) ∙ same)
  | inr apart ↦ ap (λ (e : ℕ × ReceiverState). e.0) (get_or-set_other list place k changed past_the_end apart)
]

-- a change of what is held at one place leaves the places
pub ArePlaces-set : (places : BTreeMap ℕ ℕ) (list : List (ℕ × ReceiverState)) (place : ℕ) (changed : ℕ × ReceiverState) → ArePlaces places list → place < length list → changed.0 ≡ source_at list place
    → length (set list place changed) ≡ length list → ArePlaces places (set list place changed)
ArePlaces-set places list place changed are here same many = record {
  found = λ source k is. let old = are.found source k is in (omega (arith, many, old.0), source_kept list place changed k here same ∙ old.1);
  placed = λ k below. subst (λ (s : ℕ). get nat_cmp places s ≡ Some k) (sym (source_kept list place changed k here same)) (are.placed k (omega (arith, many, below)));
}

-- the source at that place has what was put there
pub held-set_same : (places : BTreeMap ℕ ℕ) (list : List (ℕ × ReceiverState)) (place : ℕ) (changed : ℕ × ReceiverState) (ssrc : ℕ) → place < length list → get nat_cmp places ssrc ≡ Some place
    → lookup (is_at (nat_cmp ssrc)) (held places (set list place changed)) ≡ Some changed.1
held-set_same places list place changed ssrc here is =
    held_of-place places (set list place changed) ssrc ∙ ap (option_map (held_at (set list place changed))) is
    ∙ ap (λ (e : ℕ × ReceiverState). Some e.1) (get_or-set_same list place changed past_the_end here)

held-set_at : (list : List (ℕ × ReceiverState)) (place : ℕ) (changed : ℕ × ReceiverState) (at : Option ℕ) → (at ≡ Some place → ⊥)
    → option_map (held_at (set list place changed)) at ≡ option_map (held_at list) at
held-set_at list place changed None apart = refl
held-set_at list place changed (Some k) apart = ap (λ (e : ℕ × ReceiverState). Some e.1) (get_or-set_other list place k changed past_the_end (λ same. apart (ap Some same)))

-- and the others have what they had
pub held-set_other : (places : BTreeMap ℕ ℕ) (list : List (ℕ × ReceiverState)) (place : ℕ) (changed : ℕ × ReceiverState) (ssrc source : ℕ) → ArePlaces places list → get nat_cmp places ssrc ≡ Some place → source ≢ ssrc
    → lookup (is_at (nat_cmp source)) (held places (set list place changed)) ≡ lookup (is_at (nat_cmp source)) (held places list)
held-set_other places list place changed ssrc source are is apart =
    held_of-place places (set list place changed) source
    ∙ held-set_at list place changed (get nat_cmp places source) (λ same. apart (one_source places list source ssrc place are same is))
    ∙ sym (held_of-place places list source)

-- ---- one receiver is added

push_at : (list : List (ℕ × ReceiverState)) (added : ℕ × ReceiverState) (k : ℕ) → k < length list → get_or (list ++ added ∷ []) k past_the_end ≡ get_or list k past_the_end
push_at list added k below = get_or_append_left list (added ∷ []) past_the_end k below

pub ArePlaces-push : (old new : BTreeMap ℕ ℕ) (list : List (ℕ × ReceiverState)) (added : ℕ × ReceiverState) → ArePlaces old list → get nat_cmp old added.0 ≡ None → Updates nat_cmp old new added.0 (Some (length list))
    → ArePlaces new (list ++ added ∷ [])
ArePlaces-push old new list added are none updates = record {
  found = λ source k is. elim (cases_eq source added.0) [
    | inl same ↦
        let at : k ≡ length list = some-same k (length list) (sym (subst (λ (s : ℕ). get nat_cmp new s ≡ Some k) same is) ∙ updates.1) in
        (omega (arith, at, length_push list added), ap (λ (e : ℕ × ReceiverState). e.0) (get_or_at list added [] past_the_end k (sym at)) ∙ sym same)
    | inr apart ↦
        let before = are.found source k (sym (updates.2 source (is_other added.0 source apart)) ∙ is) in
        (omega (arith, before.0, length_push list added), ap (λ (e : ℕ × ReceiverState). e.0) (push_at list added k before.0) ∙ before.1)
  ];
  placed = λ k below. elim (cases_lt k (length list)) [
    | inl old_one ↦
        let source = source_at list k in
        let is = are.placed k old_one in
        let apart : source ≢ added.0 = λ same. none-some k (sym none ∙ subst (λ (s : ℕ). get nat_cmp old s ≡ Some k) same is) in
        subst (λ (e : ℕ × ReceiverState). get nat_cmp new e.0 ≡ Some k) (sym (push_at list added k old_one)) (updates.2 source (is_other added.0 source apart) ∙ is)
    | inr new_one ↦
        let at : length list ≡ k = omega (arith, below, length_push list added, new_one) in
        subst (λ (e : ℕ × ReceiverState). get nat_cmp new e.0 ≡ Some k) (sym (get_or_at list added [] past_the_end k at)) (updates.1 ∙ ap Some at)
  ];
}

pub held-push_same : (new : BTreeMap ℕ ℕ) (list : List (ℕ × ReceiverState)) (added : ℕ × ReceiverState) → get nat_cmp new added.0 ≡ Some (length list)
    → lookup (is_at (nat_cmp added.0)) (held new (list ++ added ∷ [])) ≡ Some added.1
held-push_same new list added is =
    held_of-place new (list ++ added ∷ []) added.0 ∙ ap (option_map (held_at (list ++ added ∷ []))) is
    ∙ ap (λ (e : ℕ × ReceiverState). Some e.1) (get_or_at list added [] past_the_end (length list) refl)

held-push_at : (list : List (ℕ × ReceiverState)) (added : ℕ × ReceiverState) (at : Option ℕ) → ((k : ℕ) → at ≡ Some k → k < length list) → option_map (held_at (list ++ added ∷ [])) at ≡ option_map (held_at list) at
held-push_at list added None within = refl
held-push_at list added (Some k) within = ap (λ (e : ℕ × ReceiverState). Some e.1) (push_at list added k (within k refl))

pub held-push_other : (old new : BTreeMap ℕ ℕ) (list : List (ℕ × ReceiverState)) (added : ℕ × ReceiverState) (source : ℕ) → ArePlaces old list → Updates nat_cmp old new added.0 (Some (length list)) → source ≢ added.0
    → lookup (is_at (nat_cmp source)) (held new (list ++ added ∷ [])) ≡ lookup (is_at (nat_cmp source)) (held old list)
held-push_other old new list added source are updates apart =
    held_of-place new (list ++ added ∷ []) source ∙ ap (option_map (held_at (list ++ added ∷ []))) (updates.2 source (is_other added.0 source apart))
    ∙ held-push_at list added (get nat_cmp old source) (λ k is. (are.found source k is).0) ∙ sym (held_of-place old list source)

-- ---- one receiver is taken out, and the last one takes its place

-- the list without the element at a place, which the last one fills
pub record IsFilled (before after : List (ℕ × ReceiverState)) (place : ℕ) : Type 0 where
  pub shorter : length after + 1 ≡ length before
  pub filled : place + 1 < length before → get_or after place past_the_end ≡ get_or before (length before - 1) past_the_end
  pub kept : (k : ℕ) → k ≢ place → k + 1 < length before → get_or after k past_the_end ≡ get_or before k past_the_end

-- the places without the one of a source, after which the source that fills its place has that place
pub record AreFilled (before after : BTreeMap ℕ ℕ) (list : List (ℕ × ReceiverState)) (ssrc place : ℕ) : Type 0 where
  pub gone : get nat_cmp after ssrc ≡ None
  pub moved : place + 1 < length list → get nat_cmp after (source_at list (length list - 1)) ≡ Some place
  pub kept : (source : ℕ) → source ≢ ssrc → source ≢ source_at list (length list - 1) → get nat_cmp after source ≡ get nat_cmp before source

module _ (before after : BTreeMap ℕ ℕ) (list shorter : List (ℕ × ReceiverState)) (ssrc place : ℕ)
    (are : ArePlaces before list) (is : get nat_cmp before ssrc ≡ Some place) (filled : IsFilled list shorter place) (places : AreFilled before after list ssrc place) where
  -- a source that has a place at the end of the list is the last one
  is_last : (source k : ℕ) → get nat_cmp before source ≡ Some k → k + 1 ≡ length list → source ≡ source_at list (length list - 1)
  is_last source k at end = sym (are.found source k at).1 ∙ ap (source_at list) (omega (arith, end))

  last_place : get nat_cmp before (source_at list (length list - 1)) ≡ Some (length list - 1)
  last_place = are.placed (length list - 1) (omega (arith, (are.found ssrc place is).0))

  -- where a source other than the removed one stands afterwards, and that the same is held for it there
  abbrev StandsSame : ℕ → ℕ → Type 0
  StandsSame source k = (k < length shorter) × (get_or shorter k past_the_end ≡ get_or list k past_the_end)

  stands : (source k : ℕ) → source ≢ ssrc → source ≢ source_at list (length list - 1) → get nat_cmp before source ≡ Some k → StandsSame source k
  stands source k apart not_last at =
      let within = (are.found source k at).0 in
      let not_end : k + 1 ≡ length list → ⊥ = λ end. not_last (is_last source k at end) in
      let elsewhere : k ≢ place = λ same. apart (one_source before list source ssrc place are (subst (λ (p : ℕ). get nat_cmp before source ≡ Some p) same at) is) in
      let inner : k + 1 < length list = elim (cases_eq (k + 1) (length list)) [ inl end ↦ absurd (not_end end) | inr other ↦ omega (arith, within, other) ] in
      (omega (arith, inner, filled.shorter), filled.kept k elsewhere inner)

  last_stays : source_at list (length list - 1) ≢ ssrc → place + 1 < length list
  last_stays apart = elim (cases_eq (place + 1) (length list)) [
    | inl end ↦ absurd (apart (sym (is_last ssrc place is end)))
    | inr other ↦ omega (arith, (are.found ssrc place is).0, other)
  ]

  pub ArePlaces-filled : ArePlaces after shorter
  ArePlaces-filled = record {
    found = λ source k at.
        let apart : source ≢ ssrc = λ same. none-some k (sym places.gone ∙ subst (λ (s : ℕ). get nat_cmp after s ≡ Some k) same at) in
        elim (cases_eq source (source_at list (length list - 1))) [
          | inl last ↦
              let inner = last_stays (λ same. apart (last ∙ same)) in
              let here : k ≡ place = some-same k place (sym (subst (λ (s : ℕ). get nat_cmp after s ≡ Some k) last at) ∙ places.moved inner) in
              (omega (arith, here, inner, filled.shorter), ap (source_at shorter) here ∙ ap (λ (e : ℕ × ReceiverState). e.0) (filled.filled inner) ∙ sym last)
          | inr not_last ↦
              let old : get nat_cmp before source ≡ Some k = sym (places.kept source apart not_last) ∙ at in
              let same = stands source k apart not_last old in
              (same.0, ap (λ (e : ℕ × ReceiverState). e.0) same.1 ∙ (are.found source k old).1)
        ];
    placed = λ k below. elim (cases_eq k place) [
      | inl here ↦
          let inner : place + 1 < length list = omega (arith, here, below, filled.shorter) in
          subst (λ (p : ℕ). get nat_cmp after (source_at shorter p) ≡ Some p) (sym here)
          (subst (λ (e : ℕ × ReceiverState). get nat_cmp after e.0 ≡ Some place) (sym (filled.filled inner)) (places.moved inner))
      | inr elsewhere ↦
          let inner : k + 1 < length list = omega (arith, below, filled.shorter) in
          let at = are.placed k (omega (arith, inner)) in
          let apart : source_at list k ≢ ssrc = λ same. elsewhere (some-same k place (sym (subst (λ (s : ℕ). get nat_cmp before s ≡ Some k) same at) ∙ is)) in
          let not_last : source_at list k ≢ source_at list (length list - 1) =
          λ same. let end : k ≡ length list - 1 = some-same k (length list - 1) (sym (subst (λ (s : ℕ). get nat_cmp before s ≡ Some k) same at) ∙ last_place) in absurd (omega (arith, end, inner)) in
          subst (λ (e : ℕ × ReceiverState). get nat_cmp after e.0 ≡ Some k) (sym (filled.kept k elsewhere inner)) (places.kept (source_at list k) apart not_last ∙ at)
    ];
  }

  held_kept : (source : ℕ) (at : Option ℕ) → source ≢ ssrc → source ≢ source_at list (length list - 1) → get nat_cmp before source ≡ at
      → option_map (held_at shorter) at ≡ option_map (held_at list) at
  held_kept source None apart not_last is_at_none = refl
  held_kept source (Some k) apart not_last at = ap (λ (e : ℕ × ReceiverState). Some e.1) (stands source k apart not_last at).1

  pub held-filled_other : (source : ℕ) → source ≢ ssrc → lookup (is_at (nat_cmp source)) (held after shorter) ≡ lookup (is_at (nat_cmp source)) (held before list)
  held-filled_other source apart = elim (cases_eq source (source_at list (length list - 1))) [
    | inl last ↦
        let inner = last_stays (λ same. apart (last ∙ same)) in
        held_of-place after shorter source ∙ ap (λ (s : ℕ). option_map (held_at shorter) (get nat_cmp after s)) last ∙ ap (option_map (held_at shorter)) (places.moved inner)
        ∙ ap (λ (e : ℕ × ReceiverState). Some e.1) (filled.filled inner)
        ∙ sym (held_of-place before list source ∙ ap (λ (s : ℕ). option_map (held_at list) (get nat_cmp before s)) last ∙ ap (option_map (held_at list)) last_place)
    | inr not_last ↦
        held_of-place after shorter source ∙ ap (option_map (held_at shorter)) (places.kept source apart not_last)
        ∙ held_kept source (get nat_cmp before source) apart not_last refl ∙ sym (held_of-place before list source)
  ]

  pub held-filled_gone : lookup (is_at (nat_cmp ssrc)) (held after shorter) ≡ None
  held-filled_gone = held_of-place after shorter ssrc ∙ ap (option_map (held_at shorter)) places.gone

-- ---- what the calls of the map and of the list are to this

same_get : (before after : BTreeMap ℕ ℕ) (source : ℕ) → after.entries ≡ before.entries → get nat_cmp after source ≡ get nat_cmp before source
same_get before after source same = ap (λ (es : List (ℕ × ℕ)). lookup (is_at (nat_cmp source)) es) same

pub ArePlaces-same : (before after : BTreeMap ℕ ℕ) (list : List (ℕ × ReceiverState)) → after.entries ≡ before.entries → ArePlaces before list → ArePlaces after list
ArePlaces-same before after list same are = record {
  found = λ source place is. are.found source place (sym (same_get before after source same) ∙ is);
  placed = λ place below. same_get before after (source_at list place) same ∙ are.placed place below;
}

-- what is held for a source, by its place
pub held_of-found : (places : BTreeMap ℕ ℕ) (list : List (ℕ × ReceiverState)) (source place : ℕ) → get nat_cmp places source ≡ Some place → held_of places list source ≡ Some (held_at list place)
held_of-found places list source place is = held_of-place places list source ∙ ap (option_map (held_at list)) is

pub held_of-none : (places : BTreeMap ℕ ℕ) (list : List (ℕ × ReceiverState)) (source : ℕ) → get nat_cmp places source ≡ None → held_of places list source ≡ None
held_of-none places list source is = held_of-place places list source ∙ ap (option_map (held_at list)) is

-- a source is taken out, and the others have what they had
pub record IsTaken (before after : BTreeMap ℕ ℕ) (list shorter : List (ℕ × ReceiverState)) (ssrc : ℕ) : Type 0 where
  pub index : ArePlaces after shorter
  pub gone : held_of after shorter ssrc ≡ None
  pub others : (source : ℕ) → source ≢ ssrc → held_of after shorter source ≡ held_of before list source

module _ (before mid : BTreeMap ℕ ℕ) (list shorter : List (ℕ × ReceiverState)) (ssrc place : ℕ) (are : ArePlaces before list) (is : get nat_cmp before ssrc ≡ Some place) (filled : IsFilled list shorter place)
    (removed : Updates nat_cmp before mid ssrc None) where
  filled_source : place < length shorter → source_at shorter place ≡ source_at list (length list - 1)
  filled_source below = ap (λ (e : ℕ × ReceiverState). e.0) (filled.filled (omega (arith, below, filled.shorter)))

  mover : place < length shorter → get nat_cmp before (source_at shorter place) ≡ Some (length list - 1)
  mover below = subst (λ (s : ℕ). get nat_cmp before s ≡ Some (length list - 1)) (sym (filled_source below)) (are.placed (length list - 1) (omega (arith, (are.found ssrc place is).0)))

  mover_is_other : place < length shorter → source_at shorter place ≢ ssrc
  mover_is_other below same =
      let end : length list - 1 ≡ place = some-same (length list - 1) place (sym (mover below) ∙ ap (λ (s : ℕ). get nat_cmp before s) same ∙ is) in
      absurd (omega (arith, end, below, filled.shorter))

  pub has_place : place < length shorter → get nat_cmp mid (source_at shorter place) ≡ Some (length list - 1)
  has_place below = removed.2 (source_at shorter place) (is_other ssrc (source_at shorter place) (mover_is_other below)) ∙ mover below

  module _ (after : BTreeMap ℕ ℕ) (moved : place < length shorter → Updates nat_cmp mid after (source_at shorter place) (Some place)) (none : length shorter ≤ place → after.entries ≡ mid.entries) where
    pub AreFilled-steps : AreFilled before after list ssrc place
    AreFilled-steps = record {
      gone = elim (cases_lt place (length shorter)) [
        | inl below ↦ (moved below).2 ssrc (is_other (source_at shorter place) ssrc (λ same. mover_is_other below (sym same))) ∙ removed.1
        | inr end ↦ same_get mid after ssrc (none end) ∙ removed.1
      ];
      moved = λ inner. let below : place < length shorter = omega (arith, inner, filled.shorter) in
          subst (λ (s : ℕ). get nat_cmp after s ≡ Some place) (filled_source below) (moved below).1;
      kept = λ source apart not_last.
          let before_it : get nat_cmp mid source ≡ get nat_cmp before source = removed.2 source (is_other ssrc source apart) in
          elim (cases_lt place (length shorter)) [
            | inl below ↦ (moved below).2 source (is_other (source_at shorter place) source (λ same. not_last (same ∙ filled_source below))) ∙ before_it
            | inr end ↦ same_get mid after source (none end) ∙ before_it
          ];
    }

    -- what is held afterwards
    pub taken : IsTaken before after list shorter ssrc
    taken = record {
      index = ArePlaces-filled before after list shorter ssrc place are is filled AreFilled-steps;
      gone = held-filled_gone before after list shorter ssrc place are is filled AreFilled-steps;
      others = held-filled_other before after list shorter ssrc place are is filled AreFilled-steps;
    }

-- what `swap_remove` says of two lists, whose lengths are n and m
pub filled_by : (before after : List (ℕ × ReceiverState)) (place n m : ℕ) → n ≡ length before → m ≡ length after → m + 1 ≡ n
    → (place + 1 < n → get_or after place past_the_end ≡ get_or before (n - 1) past_the_end) → ((k : ℕ) → k ≢ place → k + 1 < n → get_or after k past_the_end ≡ get_or before k past_the_end) → IsFilled before after place
filled_by before after place n m many fewer one_less filled kept = record {
  shorter = omega (arith, many, fewer, one_less);
  filled = λ inner. subst (λ (k : ℕ). get_or after place past_the_end ≡ get_or before (k - 1) past_the_end) many (filled (omega (arith, inner, many)));
  kept = λ k apart inner. kept k apart (omega (arith, inner, many));
}
