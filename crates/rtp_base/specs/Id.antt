-- The identifiers of media sections and of streams in SDP, in the form in which they are kept (RFC 5888, 4; RFC 8851, 4 and 10).
use Rattle.std.specs.Prelude.{◌≡◌, ℕ, ◌-◌, List, ◌++◌, length, map, take, replicate, ◌||◌, ◌==◌, if◌then◌else◌, IsTrue}
use Rattle.std.specs.Char.{is_ascii_alphanumeric}
use Rattle.std.specs.List.{All, before_first}
use Rattle.std.specs.Str.{chars}

-- what is kept for a character: an ASCII letter or digit itself, and an underscore for every other
abbrev pub id_char : ℕ → ℕ
id_char c = if is_ascii_alphanumeric c then c else 95

-- the characters of the text as they are kept, cut to the size
abbrev pub id_text : ℕ → List ℕ → List ℕ
id_text size text = take size (map id_char (chars text))

-- the text, filled up with spaces to the size
abbrev pub padded : ℕ → List ℕ → List ℕ
padded size text = text ++ replicate (size - length text) 32

-- the text, filled up with zeros to the size
abbrev pub zero_padded : ℕ → List ℕ → List ℕ
zero_padded size text = text ++ replicate (size - length text) 0

-- the bytes before the first space
abbrev pub before_padding : List ℕ → List ℕ
before_padding bytes = before_first (λ b. b == 32) bytes

-- the identifier of this size for the text
pub record IsIdOf (size : ℕ) (text id : List ℕ) : Type 0 where
  pub kept : id ≡ padded size (id_text size text)
  pub text_is : before_padding id ≡ id_text size text

-- a letter, a digit or an underscore
abbrev pub IsIdByte : ℕ → Type 0
IsIdByte b = IsTrue (is_ascii_alphanumeric b || b == 95)

-- letters, digits and underscores, followed by spaces only
pub record IsIdArray (bytes : List ℕ) : Type 0 where
  pub text : List ℕ
  pub spaces : ℕ
  pub bytes_are : bytes ≡ text ++ replicate spaces 32
  pub text_is : All IsIdByte text
