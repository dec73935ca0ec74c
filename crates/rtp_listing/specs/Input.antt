-- What the lines of the input say: first the extension that each id is mapped to, then the datagrams.
use Rattle.std.specs.Prelude.{◌≡◌, ℕ, ◌+◌, ◌==◌, List, [], ◌∷◌, ◌++◌, length, map, reverse, true, IsErr, Option, Some, None, Ok}
use Rattle.std.specs.List.{AllZip, find}
use Rattle.std.specs.Str.Lines.{lines}
use Rattle.hex.specs.Hex.{decode_of}
use Rattle.rtp_values.specs.declared.kind.Extension.{Extension}
use Rattle.rtp_values.specs.Kind.{IsNamedBy}
use Rattle.rtp_ext.specs.ExtensionMap.{Entry, Slots, entry_at, unlocked, ListsItems, IsUnlocked, standard_items}
use Rattle.rtp_listing.specs.MapLine.{IsMapLine}

-- an id, and the URI that a map line gives it
abbrev pub Item : Type 0
Item = ℕ × List ℕ

-- each line is a map line, with the item of the same index
abbrev pub AreMapLines : List (List ℕ) → List Item → Type 0
AreMapLines maps items = AllZip (λ line item. IsMapLine line item.0 item.1) maps items

-- each line is hexadecimal, and these are the bytes of each
abbrev pub AreHex : List (List ℕ) → List (List ℕ) → Type 0
AreHex all datagrams = map decode_of all ≡ map Ok datagrams

-- the lines are map lines with these items, and after them hexadecimal of these datagrams
pub record AreLines (all : List (List ℕ)) (items : List Item) (datagrams : List (List ℕ)) : Type 0 where
  pub maps : List (List ℕ)
  pub others : List (List ℕ)
  pub in_order : all ≡ maps ++ others
  pub are_maps : AreMapLines maps items
  pub spelled : AreHex others datagrams

-- the last of the items for the id
abbrev pub last_for : ℕ → List Item → Option Item
last_for id items = find (λ item. item.0 == id) (reverse items)

-- what an id is mapped to: the extension that the URI of its item names, unlocked, and nothing without an item
abbrev pub IsEntryOf : Option Item → Option Entry → Type 0
IsEntryOf None entry = entry ≡ None
IsEntryOf (Some item) entry = (extension : Extension) × IsNamedBy item.1 extension × (entry ≡ Some (unlocked extension))

-- each id is mapped as the last of the items for it says
abbrev pub AreMapped : List Item → Slots → Type 0
AreMapped items exts = (id : ℕ) → IsEntryOf (last_for id items) (entry_at exts id)

-- the standard map: its listing, and nothing locked
abbrev pub IsStandardMap : Slots → Type 0
IsStandardMap exts = ListsItems exts (λ _. true) standard_items × IsUnlocked exts

-- the map that the items make, and without any the standard one
abbrev pub IsMapOf : List Item → Slots → Type 0
IsMapOf [] exts = IsStandardMap exts
IsMapOf (item ∷ items) exts = AreMapped (item ∷ items) exts

-- the lines of the text give this map and these datagrams
pub record Spells (text : List ℕ) (exts : Slots) (datagrams : List (List ℕ)) : Type 0 where
  pub items : List Item
  pub lines_are : AreLines (lines text) items datagrams
  pub exts_are : IsMapOf items exts

-- the line of this number, from 1, is the first that is neither a map line before all datagrams nor hexadecimal
pub record IsFirstBadLine (text : List ℕ) (number : ℕ) : Type 0 where
  pub before : List (List ℕ)
  pub bad : List ℕ
  pub after : List (List ℕ)
  pub in_order : lines text ≡ before ++ bad ∷ after
  pub number_is : number ≡ length before + 1
  pub items : List Item
  pub datagrams : List (List ℕ)
  pub good_before : AreLines before items datagrams
  pub not_hex : IsErr (decode_of bad)
  pub no_map : datagrams ≡ [] → (id : ℕ) (uri : List ℕ) → IsMapLine bad id uri → ⊥

-- every line is a map line before all datagrams, or hexadecimal
abbrev pub IsInput : List ℕ → Type 0
IsInput text = (items : List Item) × (datagrams : List (List ℕ)) × AreLines (lines text) items datagrams

-- some line is not
abbrev pub HasBadLine : List ℕ → Type 0
HasBadLine text = (number : ℕ) × IsFirstBadLine text number
