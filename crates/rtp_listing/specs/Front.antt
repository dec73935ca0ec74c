-- The text read in two steps: the map lines at its front, and the rest.
use Rattle.std.specs.Prelude.{◌≡◌, ℕ, ◌+◌, ◌%◌, ◌≤◌, List, ◌∷◌, ◌++◌, length, All, IsErr}
use Rattle.std.specs.Char.{IsAsciiHexdigit}
use Rattle.std.specs.Str.Lines.{lines}
use Rattle.hex.specs.Hex.{decode_of}
use Rattle.rtp_ext.specs.ExtensionMap.{Slots}
use Rattle.rtp_listing.specs.MapLine.{IsMapLine}
use Rattle.rtp_listing.specs.Input.{Item, AreMapLines, AreMapped, AreHex}

-- the first line, if there is one, is no map line
abbrev pub MapsNoneFirst : List ℕ → Type 0
MapsNoneFirst text = (line : List ℕ) (others : List (List ℕ)) (id : ℕ) (uri : List ℕ) → lines text ≡ line ∷ others → IsMapLine line id uri → ⊥

-- the text is this number of map lines and then the rest, and this is what they map
pub record IsFront (text : List ℕ) (exts : Slots) (count : ℕ) (rest : List ℕ) : Type 0 where
  pub maps : List (List ℕ)
  pub items : List Item
  pub in_order : lines text ≡ maps ++ lines rest
  pub are_maps : AreMapLines maps items
  pub exts_are : AreMapped items exts
  pub count_is : count ≡ length maps
  pub fits : count + length rest ≤ length text

-- the text is an even number of digits and then the rest
pub record IsPastDigits (text rest : List ℕ) : Type 0 where
  pub digits : List ℕ
  pub text_is : text ≡ digits ++ rest
  pub even : length digits % 2 ≡ 0
  pub are_digits : All IsAsciiHexdigit digits

-- the lines of the text are hexadecimal of some datagrams
abbrev pub IsHexText : List ℕ → Type 0
IsHexText text = (datagrams : List (List ℕ)) × AreHex (lines text) datagrams

-- the first line that is not hexadecimal has this number, where the lines are counted from start + 1
pub record IsFirstNotHex (all : List (List ℕ)) (start number : ℕ) : Type 0 where
  pub before : List (List ℕ)
  pub bad : List ℕ
  pub after : List (List ℕ)
  pub in_order : all ≡ before ++ bad ∷ after
  pub number_is : number ≡ start + length before + 1
  pub datagrams : List (List ℕ)
  pub good_before : AreHex before datagrams
  pub not_hex : IsErr (decode_of bad)
