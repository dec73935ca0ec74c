-- The map that C fills: a number for each id (RFC 8285, 5).
use Rattle.std.specs.Prelude.{◌≡◌, ◌≢◌, ℕ, zero, suc, ◌<◌, ◌≤◌, List, length, map, slice_index, slice_index_or, Option, None, EachIndex, true, nat_lt, if◌then◌else◌}
use Rattle.rtp_values.specs.declared.known_kind.KnownKind.{KnownKind}
use Rattle.rtp_ext.specs.ExtensionMap.{Slots, ListsItems, standard_items}
use Rattle.rtp_ext.specs.KindsById.{slots_of}
use Rattle.rtp_ext.specs.NewIds.{CarriesExtensions, ids_in_bytes}
use Rattle.rtp_c.specs.KindNumbers.{IsKindNumbered, IsNamed, kind_numbered}

-- the slots of the ids from 1 on hold the kinds of their numbers
pub record HasKinds (numbers : List ℕ) (slots : Slots) : Type 0 where
  pub kinds : List (Option KnownKind)
  pub as_many : length kinds ≡ length numbers
  pub numbered : EachIndex numbers (λ i. IsKindNumbered (slice_index numbers i) (slice_index_or kinds i None))
  pub slots_are : slots ≡ slots_of kinds

-- the ids mean the usual extensions, each its own, and no other id means one
pub record AreStandardNumbers (numbers : List ℕ) : Type 0 where
  pub slots : Slots
  pub has_kinds : HasKinds numbers slots
  pub listing : ListsItems slots (λ _. true) standard_items

-- the id means this number: it stands there, and is that of a kind or one of the caller's own
pub record Means (numbers : List ℕ) (id number : ℕ) : Type 0 where
  pub is_id : 1 ≤ id
  pub here : slice_index numbers id ≡ number
  pub named : IsNamed number

-- the number that the id means, and 0 where it means none
abbrev pub IsNumberAt : List ℕ → ℕ → ℕ → Type 0
IsNumberAt numbers id zero = (number : ℕ) → Means numbers id number → ⊥
IsNumberAt numbers id (suc k) = Means numbers id (suc k)

-- the lowest id that means the number
pub record IsLowestOf (numbers : List ℕ) (number id : ℕ) : Type 0 where
  pub means : Means numbers id number
  pub lowest : (k : ℕ) → k < id → Means numbers k number → ⊥

-- the same, and 0 where no id means the number
abbrev pub IsIdOf : List ℕ → ℕ → ℕ → Type 0
IsIdOf numbers number zero = (id : ℕ) → Means numbers id number → ⊥
IsIdOf numbers number (suc k) = IsLowestOf numbers number (suc k)

-- each id that means a number gets the lowest id that means it in the other map, and every other id none, which is 0
pub record AreNewIdsOf (from to bytes : List ℕ) : Type 0 where
  pub meant : (id number : ℕ) → Means from id number → IsIdOf to number (slice_index bytes id)
  pub others : (id : ℕ) → ((number : ℕ) → Means from id number → ⊥) → slice_index bytes id ≡ 0

-- the bytes carry the kinds that the numbers of one map mean to the other map
pub record CarryKinds (from to bytes : List ℕ) : Type 0 where
  pub before : Slots
  pub has_before : HasKinds from before
  pub after : Slots
  pub has_after : HasKinds to after
  pub carried : CarriesExtensions before after (ids_in_bytes bytes)

-- What the inside promises itself: the slots of the ids from 1 on, by the numbers of the ids from 0 on.
abbrev pub numbered_slots : List ℕ → Slots
numbered_slots numbers = slots_of (map kind_numbered numbers)

-- where a walk ends whose slots are looked at one by one up to an index: there, within the 14 of the one-byte form, and else at the last slot
abbrev pub last_end : ℕ → ℕ
last_end end = if nat_lt 14 end then 255 else end

-- the first index where the number stands
pub record IsFirstNumber (numbers : List ℕ) (number index : ℕ) : Type 0 where
  pub within : index < length numbers
  pub here : slice_index numbers index ≡ number
  pub before : (k : ℕ) → k < index → slice_index numbers k ≢ number
