-- The slots of a map as the code goes through them: that of id 1 is index 0.
use Rattle.std.specs.Prelude.{◌≡◌, ◌≢◌, ℕ, ◌+◌, ◌<◌, List, [], ◌∷◌, drop, Option, Some, None}
use Rattle.rtp_values.specs.declared.kind.Extension.{Extension}
use Rattle.rtp_ext.specs.declared.slots.Mapping.{Mapping}
use Rattle.rtp_ext.specs.declared.slots.Mapping.TheVariants as mapping
use Rattle.rtp_ext.specs.ExtensionMap.{Entry, Slots, HasNoIdAbove, entry_at, unlocked, locked, items_from}

-- the entry in a slot
abbrev pub entry_of : Mapping → Option Entry
entry_of mapping.Unmapped = None
entry_of (mapping.Free extension) = Some (unlocked extension)
entry_of (mapping.Locked extension) = Some (locked extension)

-- the id has an entry
abbrev pub IsMapped : Slots → ℕ → Type 0
IsMapped slots id = (entry : Entry) × (entry_at slots id ≡ Some entry)

-- the id has the entry now, or none, and every other id what it had
pub record Puts (old new : Slots) (id : ℕ) (slot : Option Entry) : Type 0 where
  pub this : entry_at new id ≡ slot
  pub others : (k : ℕ) → k ≢ id → entry_at new k ≡ entry_at old k

-- the entries of two ids are in each other's place now, and every other id has what it had
pub record Swaps (old new : Slots) (from to : ℕ) : Type 0 where
  pub here : entry_at new from ≡ entry_at old to
  pub there : entry_at new to ≡ entry_at old from
  pub others : (k : ℕ) → k ≢ from → k ≢ to → entry_at new k ≡ entry_at old k

-- the highest id that is mapped, and 0 where none is
pub record IsLastId (slots : Slots) (last : ℕ) : Type 0 where
  pub none_above : HasNoIdAbove last slots
  pub mapped : 0 < last → IsMapped slots last

-- the first id of a listing, and 0 where it is empty
abbrev pub first_id : List (ℕ × Extension) → ℕ
first_id [] = 0
first_id (item ∷ items) = item.0

-- the lowest mapped id above one, and 0 where there is none
abbrev pub next_id : Slots → ℕ → ℕ
next_id slots id = first_id (items_from id (drop id slots))

-- the lowest mapped id above each, where this many were passed
abbrev pub next_ids : ℕ → Slots → List ℕ
next_ids passed [] = 0 ∷ []
next_ids passed (slot ∷ left) = first_id (items_from passed (slot ∷ left)) ∷ next_ids (passed + 1) left
