-- The map that the lines `a=extmap` of SDP make (RFC 8285, 5).
use Rattle.std.specs.Prelude.{◌≡◌, ◌≢◌, ℕ, ◌<◌, List, [], length, Some, None, slice_index_or}
use Rattle.rtp_values.specs.declared.kind.Extension.{Extension}
use Rattle.rtp_values.specs.Kind.{kind_of, IsKnown, IsNamedBy}
use Rattle.rtp_ext.specs.ExtensionMap.{Slots, IsId, entry_at, unlocked, Sets}

-- the id is mapped to the extension of this URI now, and every other id to what it was mapped to
pub record TakesLine (old new : Slots) (id : ℕ) (uri : List ℕ) : Type 0 where
  pub extension : Extension
  pub named : IsNamedBy uri extension
  pub sets : Sets old new id (unlocked extension)

-- the id is mapped to the extension of this URI
pub record IsMappedTo (map : Slots) (id : ℕ) (uri : List ℕ) : Type 0 where
  pub extension : Extension
  pub named : IsNamedBy uri extension
  pub mapped : entry_at map id ≡ Some (unlocked extension)

-- the URI names a known extension
abbrev pub IsKnownUri : List ℕ → Type 0
IsKnownUri uri = (kind : Extension) × IsKnown kind × ((kind_of kind).uri ≡ uri)

-- the line at an index: an id and a URI
abbrev pub line_at : List (ℕ × List ℕ) → ℕ → ℕ × List ℕ
line_at lines i = slice_index_or lines i (0, [])

-- each line names a known extension
abbrev pub AreKnown : List (ℕ × List ℕ) → Type 0
AreKnown lines = (i : ℕ) → i < length lines → IsKnownUri (line_at lines i).1

-- each id that a map has room for is mapped to the extension of its last line, and an id without a line to nothing
pub record AreNegotiated (lines : List (ℕ × List ℕ)) (map : Slots) : Type 0 where
  pub last : (i : ℕ) → i < length lines → IsId (line_at lines i).0
      → ((j : ℕ) → i < j → j < length lines → (line_at lines j).0 ≢ (line_at lines i).0)
      → IsMappedTo map (line_at lines i).0 (line_at lines i).1
  pub others : (id : ℕ) → ((i : ℕ) → i < length lines → (line_at lines i).0 ≢ id) → entry_at map id ≡ None
