-- What is held for each source, in a list that has any order, and the place of each source in it.
use Rattle.std.specs.Prelude.{◌≡◌, ℕ, ◌<◌, List, map, length, slice_index_or, Option, Some}
use Rattle.std.specs.Map.{lookup}
use Rattle.std.specs.BTreeMap.{BTreeMap, get}
use Rattle.std.specs.Ordering.{nat_cmp, is_eq}
use Rattle.rtp_receive.specs.StreamState.{ReceiverState}
use Rattle.rtp_receive.specs.declared.receiver.ReceiverState.TheVariants.{Start}

-- what is read at a place that the list doesn't have
abbrev pub past_the_end : ℕ × ReceiverState
past_the_end = (0, Start 0)

-- the source at a place of the list
abbrev pub source_at : List (ℕ × ReceiverState) → ℕ → ℕ
source_at list place = (slice_index_or list place past_the_end).0

-- what is held for the source at a place of the list
abbrev pub held_at : List (ℕ × ReceiverState) → ℕ → ReceiverState
held_at list place = (slice_index_or list place past_the_end).1

-- each source with what is held for it, in the order of the map of their places
abbrev pub held : BTreeMap ℕ ℕ → List (ℕ × ReceiverState) → List (ℕ × ReceiverState)
held places list = map (λ entry. (entry.0, held_at list entry.1)) places.entries

-- what is held for a source, if anything
abbrev pub held_of : BTreeMap ℕ ℕ → List (ℕ × ReceiverState) → ℕ → Option ReceiverState
held_of places list source = lookup (λ other. is_eq (nat_cmp source other)) (held places list)

-- the map has the place of each source of the list, and no other
pub record ArePlaces (places : BTreeMap ℕ ℕ) (list : List (ℕ × ReceiverState)) : Type 0 where
  pub found : (source place : ℕ) → get nat_cmp places source ≡ Some place → (place < length list) × (source_at list place ≡ source)
  pub placed : (place : ℕ) → place < length list → get nat_cmp places (source_at list place) ≡ Some place
