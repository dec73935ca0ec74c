-- What the receivers have for one source, and for the others, by the places of their list.
use Rattle.std.proofs.Common.{◌≡◌, ◌≢◌, ℕ, ◌+◌, List, length, get_or, set, length-set, sym, refl, ap, ◌∙◌, subst}
use Rattle.std.specs.Prelude.{Option, Some, None, IsSome, unwrap_or, Result, Ok, Err, IsErr}
use Rattle.std.specs.Option.{option_map}
use Rattle.std.specs.Ordering.{nat_cmp}
use Rattle.std.specs.BTreeMap.{BTreeMap, get}
use Rattle.std.proofs.lemmas.List.{get_or_default, length-map}
use Rattle.std.proofs.lemmas.Bool.{false≢true}
use Rattle.std.proofs.lemmas.Option.{none-some}
use Rattle.rtp_base.specs.Window.{Numbers}
use Rattle.rtp_receive.specs.StreamState.{ReceiverState}
use Rattle.rtp_receive.specs.declared.receiver.ReceiverState.TheVariants.{Start}
use Rattle.rtp_receive.specs.Receiver.{Holds, StaysBelowZeroIn}
use Rattle.rtp_receive.specs.Receivers.{ReceiverStates, receiver_of, state_of, ChangesSource}
use Rattle.rtp_receive.specs.SourcePlaces.{past_the_end, held_at, held, held_of, ArePlaces}
use Rattle.rtp_receive.proofs.PlacesLemmas.{is_none, held_of-place, held_of-found, held_of-none, ArePlaces-set, held-set_same, held-set_other}

-- receivers as they are seen, by the list that has them and the places in it
abbrev pub seen : ℕ → BTreeMap ℕ ℕ → List (ℕ × ReceiverState) → ReceiverStates
seen rollover_count places list = record { rollover_count = rollover_count; by_source = held places list }

no_value : (list : List (ℕ × ReceiverState)) (place : Option ℕ) → option_map (held_at list) place ≡ None → place ≡ None
no_value list None none = refl
no_value list (Some k) none = absurd (none-some (held_at list k) (sym none))

-- what a source's receiver holds stays with the receiver and the rollover count
pub same_state : (before after : ReceiverStates) (source : ℕ) → after.rollover_count ≡ before.rollover_count → receiver_of after source ≡ receiver_of before source
    → state_of after source ≡ state_of before source
same_state before after source count receiver =
    ap (λ (o : Option ReceiverState). unwrap_or o (Start after.rollover_count)) receiver ∙ ap (λ (k : ℕ). unwrap_or (receiver_of before source) (Start k)) count

-- what is held of a source with a receiver is what that holds
pub state_is : (receivers : ReceiverStates) (source : ℕ) (state : ReceiverState) → receiver_of receivers source ≡ Some state → state_of receivers source ≡ state
state_is receivers source state is = ap (λ (o : Option ReceiverState). unwrap_or o (Start receivers.rollover_count)) is

module _ (rollover_count : ℕ) (places : BTreeMap ℕ ℕ) (list : List (ℕ × ReceiverState)) (receivers : ReceiverStates) (source : ℕ) (same : seen rollover_count places list ≡ receivers) where
  -- a source that has no place has no receiver, and the other way round
  pub no_receiver : get nat_cmp places source ≡ None → receiver_of receivers source ≡ None
  no_receiver none = ap (λ (rs : ReceiverStates). receiver_of rs source) (sym same) ∙ held_of-none places list source none

  pub no_place : receiver_of receivers source ≡ None → get nat_cmp places source ≡ None
  no_place none = no_value list (get nat_cmp places source) (sym (held_of-place places list source) ∙ ap (λ (rs : ReceiverStates). receiver_of rs source) same ∙ none)

  start : {state : ReceiverState} → state ≡ Start rollover_count → state ≡ Start receivers.rollover_count
  start is = is ∙ ap (λ (rs : ReceiverStates). Start rs.rollover_count) same

  -- a receiver that is made for it holds what is held of it
  pub Holds-new : (added : ReceiverState) → get nat_cmp places source ≡ None → added ≡ Start rollover_count → (count : ℕ) (taken : Numbers)
      → Holds (state_of receivers source) count taken → Holds added count taken
  Holds-new added none is count taken holds =
      subst (λ (state : ReceiverState). Holds state count taken) (ap (λ (o : Option ReceiverState). unwrap_or o (Start receivers.rollover_count)) (no_receiver none) ∙ sym (start is)) holds

  -- and it stays with the numbers below 0 that the source had
  pub StaysBelowZeroIn-new : (made added : ReceiverState) (after : ReceiverStates) → get nat_cmp places source ≡ None → made ≡ Start rollover_count
      → receiver_of after source ≡ Some added → StaysBelowZeroIn made added → StaysBelowZeroIn (state_of receivers source) (state_of after source)
  StaysBelowZeroIn-new made added after none is now stays =
      subst (λ (s : ReceiverState). StaysBelowZeroIn s (state_of after source))
      (start is ∙ sym (ap (λ (o : Option ReceiverState). unwrap_or o (Start receivers.rollover_count)) (no_receiver none)))
      (subst (λ (s : ReceiverState). StaysBelowZeroIn made s) (sym (state_is after source added now)) stays)

  -- where it has no receiver one is added, or memory is refused
  pub ChangesSource-added : {A E : Type 0} (answer : A) (after : ReceiverStates) {added : ReceiverState} → get nat_cmp places source ≡ None → receiver_of after source ≡ Some added
      → ((other : ℕ) → other ≢ source → receiver_of after other ≡ receiver_of (seen rollover_count places list) other) → after.rollover_count ≡ rollover_count
      → length after.by_source ≡ length (held places list) + 1 → ChangesSource {A = A} {E = E} source (Ok answer) receivers after
  ChangesSource-added {A = A} {E = E} answer after none now others count more =
      subst (λ (before : ReceiverStates). ChangesSource {A = A} {E = E} source (Ok answer) before after) same (record {
        receiver = subst (λ (o : Option ReceiverState). IsSome o) (sym now) refl;
        others = others;
        count = count;
        refused = tt;
        memory = tt;
        as_many = λ known. absurd (is_none (held_of places list source) (held_of-none places list source none) known);
        one_more = λ _. more;
      })

  pub ChangesSource-refused : {A E : Type 0} (answer : Result A E) (after : ReceiverStates) → IsErr answer → get nat_cmp places source ≡ None → after ≡ seen rollover_count places list
      → ChangesSource source answer receivers after
  ChangesSource-refused (Ok value) after is none kept = absurd (false≢true is)
  ChangesSource-refused (Err error) after is none kept =
      let unchanged = kept ∙ same in
      record {
        receiver = tt;
        others = λ other apart. ap (λ (rs : ReceiverStates). receiver_of rs other) unchanged;
        count = ap (λ (rs : ReceiverStates). rs.rollover_count) unchanged;
        refused = unchanged;
        memory = no_receiver none;
        as_many = λ known. ap (λ (rs : ReceiverStates). length rs.by_source) unchanged;
        one_more = λ _. tt;
      }

  module _ (place : ℕ) (value : ℕ × ReceiverState) (are : ArePlaces places list) (is : get nat_cmp places source ≡ Some place) (read : value ≡ get_or list place value) where
    read_there : value ≡ get_or list place past_the_end
    read_there = read ∙ get_or_default list place value past_the_end (are.found source place is).0

    -- a source that has a place has the receiver that is read there
    pub receiver_read : receiver_of receivers source ≡ Some value.1
    receiver_read = ap (λ (rs : ReceiverStates). receiver_of rs source) (sym same) ∙ held_of-found places list source place is ∙ ap (λ (e : ℕ × ReceiverState). Some e.1) (sym read_there)

    -- and that holds what is held of the source
    pub Holds-read : (count : ℕ) (taken : Numbers) → Holds (state_of receivers source) count taken → Holds value.1 count taken
    Holds-read count taken holds = subst (λ (state : ReceiverState). Holds state count taken) (state_is receivers source value.1 receiver_read) holds

    module _ (state : ReceiverState) where
      -- where it changes, each source has its place still
      pub ArePlaces-written : ArePlaces places (set list place (value.0, state))
      ArePlaces-written =
          ArePlaces-set places list place (value.0, state) are (are.found source place is).0 (ap (λ (e : ℕ × ReceiverState). e.0) read_there) (length-set list place (value.0, state))

      -- the source has the changed receiver
      pub receiver_written : receiver_of (seen rollover_count places (set list place (value.0, state))) source ≡ Some state
      receiver_written = held-set_same places list place (value.0, state) source (are.found source place is).0 is

      pub Holds-written : (count : ℕ) (taken : Numbers) → Holds state count taken → Holds (state_of (seen rollover_count places (set list place (value.0, state))) source) count taken
      Holds-written count taken holds =
          subst (λ (s : ReceiverState). Holds s count taken) (sym (state_is (seen rollover_count places (set list place (value.0, state))) source state receiver_written)) holds

      pub StaysBelowZeroIn-written : StaysBelowZeroIn value.1 state
          → StaysBelowZeroIn (state_of receivers source) (state_of (seen rollover_count places (set list place (value.0, state))) source)
      StaysBelowZeroIn-written stays =
          subst (λ (s : ReceiverState). StaysBelowZeroIn s (state_of (seen rollover_count places (set list place (value.0, state))) source))
          (sym (state_is receivers source value.1 receiver_read))
          (subst (λ (s : ReceiverState). StaysBelowZeroIn value.1 s)
          (sym (state_is (seen rollover_count places (set list place (value.0, state))) source state receiver_written)) stays)

      -- and the others have theirs
      pub others_written : (other : ℕ) → other ≢ source → receiver_of (seen rollover_count places (set list place (value.0, state))) other ≡ receiver_of receivers other
      others_written other apart = held-set_other places list place (value.0, state) source other are is apart ∙ ap (λ (rs : ReceiverStates). receiver_of rs other) same

      pub ChangesSource-written : {A E : Type 0} (answer : A) → ChangesSource {A = A} {E = E} source (Ok answer) receivers (seen rollover_count places (set list place (value.0, state)))
      ChangesSource-written answer = record {
        receiver = subst (λ (o : Option ReceiverState). IsSome o) (sym receiver_written) refl;
        others = others_written;
        count = ap (λ (rs : ReceiverStates). rs.rollover_count) same;
        refused = tt;
        memory = tt;
        as_many = λ known. length-map places.entries (λ entry. (entry.0, held_at (set list place (value.0, state)) entry.1)) ∙ sym (length-map places.entries (λ entry. (entry.0, held_at list entry.1))) ∙ ap (λ (rs : ReceiverStates). length rs.by_source) same;
        one_more = λ none. absurd (none-some value.1 (sym none ∙ receiver_read));
      }
