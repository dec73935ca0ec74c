-- The map of extension ids: which extension each id is mapped to, and which entries are locked (RFC 8285, 5).
use Rattle.std.specs.Prelude.{◌≡◌, ◌≢◌, ℕ, ◌+◌, ◌<◌, ◌≤◌, suc, zero, List, [], ◌∷◌, ◌++◌, codes, length, Bool, true, false, if◌then◌else◌, Option, Some, None, slice_index_or}
use Rattle.std.specs.Fmt.{decimal}
use Rattle.std.specs.Option.{option_map}
use Rattle.std.specs.List.{All, Contains}
use Rattle.rtp_values.specs.declared.kind.Extension.{Extension}
use Rattle.rtp_values.specs.declared.kind.Extension.TheVariants.{AudioLevel, AbsoluteSendTime, TransportSequenceNumber, RtpMid, RtpStreamId, RepairedRtpStreamId, VideoOrientation}
use Rattle.rtp_values.specs.Kind.{kind_of, IsKnown}

-- an extension, and whether it is locked where it is
pub record Entry : Type 0 where
  pub extension : Extension
  pub locked : Bool

-- what a map shows: a slot for each id from 1 on
abbrev pub Slots : Type 0
Slots = List (Option Entry)

-- an id that a map has a slot for: those of the two-byte form (RFC 8285, 4.3)
abbrev pub IsId : ℕ → Type 0
IsId id = (1 ≤ id) × (id ≤ 255)

-- the entry of an id: an extension and whether it is locked there, or nothing
abbrev pub entry_at : Slots → ℕ → Option Entry
entry_at map zero = None
entry_at map (suc k) = slice_index_or map k None

-- the extension of an entry, and the extension that an id is mapped to
abbrev pub extension_of : Option Entry → Option Extension
extension_of slot = option_map (λ entry. entry.extension) slot

abbrev pub extension_at : Slots → ℕ → Option Extension
extension_at map id = extension_of (entry_at map id)

-- the entry of an extension that may be moved, and of one that is locked
abbrev pub unlocked : Extension → Entry
unlocked extension = record { extension = extension; locked = false }

abbrev pub locked : Extension → Entry
locked extension = record { extension = extension; locked = true }

-- nothing is mapped
abbrev pub IsEmpty : Slots → Type 0
IsEmpty map = (id : ℕ) → entry_at map id ≡ None

-- the id is mapped to the entry now, and every other id to what it was mapped to
pub record Sets (old new : Slots) (id : ℕ) (entry : Entry) : Type 0 where
  pub this : entry_at new id ≡ Some entry
  pub others : (k : ℕ) → k ≢ id → entry_at new k ≡ entry_at old k

-- no id is mapped to the extension
abbrev pub IsUnmapped : Slots → Extension → Type 0
IsUnmapped map extension = (id : ℕ) → extension_at map id ≢ Some extension

-- the lowest id that is mapped to the extension
pub record IsLowest (map : Slots) (extension : Extension) (id : ℕ) : Type 0 where
  pub mapped : extension_at map id ≡ Some extension
  pub lowest : (k : ℕ) → k < id → extension_at map k ≢ Some extension

-- the id is mapped to the extension, and no other id is
pub record IsOnlyId (map : Slots) (extension : Extension) (id : ℕ) : Type 0 where
  pub mapped : extension_at map id ≡ Some extension
  pub only : (k : ℕ) → extension_at map k ≡ Some extension → k ≡ id

-- an entry that is locked, and an id whose entry is
abbrev pub IsLocked : Option Entry → Type 0
IsLocked None = ⊥
IsLocked (Some entry) = entry.locked ≡ true

abbrev pub IsLockedAt : Slots → ℕ → Type 0
IsLockedAt map id = IsLocked (entry_at map id)

-- the entries of two ids are exchanged, the first of them locked now, and all others stay
pub record Exchanges (old new : Slots) (from to : ℕ) (extension : Extension) : Type 0 where
  pub here : entry_at new to ≡ Some (locked extension)
  pub there : entry_at new from ≡ entry_at old to
  pub others : (k : ℕ) → k ≢ from → k ≢ to → entry_at new k ≡ entry_at old k

-- one step of a renegotiation: the peer asks for the extension at the id
pub data Remaps (old : Slots) (id : ℕ) (extension : Extension) (new : Slots) : Type 0 where
  -- the map has no such id
  out_of_range : (IsId id → ⊥) → new ≡ old → Remaps old id extension new
  -- the extension isn't mapped here
  not_mapped : IsId id → IsUnmapped old extension → new ≡ old → Remaps old id extension new
  -- it is there already, and is locked there
  same_slot : IsId id → IsLowest old extension id → Sets old new id (locked extension) → Remaps old id extension new
  -- it is locked elsewhere, and stays
  locked_elsewhere : (from : ℕ) → IsId id → IsLowest old extension from → from ≢ id → IsLockedAt old from → new ≡ old
      → Remaps old id extension new
  -- it is free elsewhere: it moves to the id and is locked there, and what stood there takes its slot
  moved : (from : ℕ) → IsId id → IsLowest old extension from → from ≢ id → (IsLockedAt old from → ⊥)
      → Exchanges old new from id extension → Remaps old id extension new

-- the steps of a renegotiation, one after another
abbrev pub AreRemapped : Slots → List (ℕ × Extension) → Slots → Type 0
AreRemapped old [] new = new ≡ old
AreRemapped old (step ∷ steps) new = (between : Slots) × Remaps old step.0 step.1 between × AreRemapped between steps new

-- a one-to-one change of ids carries each extension to the new map, locked where it was locked: so each extension has as many ids as before
pub record IsRenumbered (old new : Slots) : Type 0 where
  pub moved : ℕ → ℕ
  pub back : ℕ → ℕ
  pub once : (id : ℕ) → back (moved id) ≡ id
  pub onto : (id : ℕ) → moved (back id) ≡ id
  pub extensions : (id : ℕ) → extension_at new (moved id) ≡ extension_at old id
  pub locks : (id : ℕ) → IsLockedAt old id → IsLockedAt new (moved id)

-- whether an extension is one of audio, or else of video
abbrev pub is_of_medium : Bool → Extension → Bool
is_of_medium true extension = (kind_of extension).audio
is_of_medium false extension = (kind_of extension).video

-- an entry of audio, or else of video, unlocked, and nothing instead of any other
abbrev pub of_medium : Bool → Option Entry → Option Entry
of_medium audio None = None
of_medium audio (Some entry) = if is_of_medium audio entry.extension then Some (unlocked entry.extension) else None

-- the ids rise
abbrev pub IsRising : List (ℕ × Extension) → Type 0
IsRising [] = Unit {0}
IsRising (item ∷ items) = All (λ later. item.0 < later.0) items × IsRising items

-- the mapped ids whose extension passes the test, each once and rising, with their extensions
pub record ListsItems (map : Slots) (passes : Extension → Bool) (items : List (ℕ × Extension)) : Type 0 where
  pub rising : IsRising items
  pub mapped : All (λ item. (extension_at map item.0 ≡ Some item.1) × (passes item.1 ≡ true)) items
  pub all : (id : ℕ) (extension : Extension) → extension_at map id ≡ Some extension → passes extension ≡ true
      → Contains items (id, extension)

-- the mapped ids of some slots, rising, each with its extension; `passed` slots stand before them
abbrev pub items_from : ℕ → Slots → List (ℕ × Extension)
items_from passed [] = []
items_from passed (None ∷ left) = items_from (passed + 1) left
items_from passed (Some entry ∷ left) = (passed + 1, entry.extension) ∷ items_from (passed + 1) left

-- how many ids are mapped
abbrev pub mapped_count : Slots → ℕ
mapped_count map = length (items_from 0 map)

-- no id above this one is mapped
abbrev pub HasNoIdAbove : ℕ → Slots → Type 0
HasNoIdAbove greatest map = (id : ℕ) → greatest < id → entry_at map id ≡ None

-- the text of a mapped id: its number, and what its extension is shown as
abbrev pub item_text : ℕ × Extension → List ℕ
item_text item = decimal item.0 ++ (codes "=" ++ (kind_of item.1).name)

-- the texts of mapped ids in a row, the first after `lead` and each other after a comma
abbrev pub items_text : List ℕ → List (ℕ × Extension) → List ℕ
items_text lead [] = []
items_text lead (item ∷ items) = lead ++ (item_text item ++ items_text (codes ", ") items)

-- what the standard map has: the usual ids of the usual extensions, for audio and for video
abbrev pub standard_items : List (ℕ × Extension)
standard_items =
    (1, AudioLevel) ∷ (2, AbsoluteSendTime) ∷ (3, TransportSequenceNumber) ∷ (4, RtpMid)
    ∷ (10, RtpStreamId) ∷ (11, RepairedRtpStreamId) ∷ (13, VideoOrientation) ∷ []

-- no entry is locked
abbrev pub IsUnlocked : Slots → Type 0
IsUnlocked map = (id : ℕ) → IsLockedAt map id → ⊥

-- no extension in the map has a text of its own
abbrev pub HasNoText : Slots → Type 0
HasNoText map = (id : ℕ) (extension : Extension) → extension_at map id ≡ Some extension → IsKnown extension
