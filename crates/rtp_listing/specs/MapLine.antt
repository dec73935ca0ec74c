-- A line that maps an id to an extension.
use Rattle.std.specs.Prelude.{◌≡◌, ℕ, ◌≤◌, List, ◌∷◌, ◌++◌, length, codes}
use Rattle.std.specs.Str.{IsUtf8}
use Rattle.std.specs.Str.Parse.{AllDigits, digits_value}
use Rattle.rtp_ext.specs.ExtensionMap.{IsId}

-- one to three decimal digits write this id of a map
pub record IsIdText (digits : List ℕ) (id : ℕ) : Type 0 where
  pub are_digits : AllDigits 10 digits
  pub some : 1 ≤ length digits
  pub few : length digits ≤ 3
  pub value_is : id ≡ digits_value 10 digits
  pub is_id : IsId id

-- the line is `map`, the id's digits and the URI, one space between them; the URI is a text of one byte or more, and may have spaces
pub record IsMapLine (line : List ℕ) (id : ℕ) (uri : List ℕ) : Type 0 where
  pub digits : List ℕ
  pub in_order : line ≡ codes "map " ++ (digits ++ 32 ∷ uri)
  pub digits_are : IsIdText digits id
  pub uri_some : 1 ≤ length uri
  pub uri_is_text : IsUtf8 uri
