-- A LEB128 number read from left to right: what the functions of `leb` promise each other.
use Rattle.std.specs.Prelude.{ℕ, zero, suc, ◌+◌, ◌*◌, ◌%◌, List, [], ◌∷◌, Option, Some, None, nat_lt, drop, if◌then◌else◌}
use Rattle.std.specs.Option.{option_map}

-- the number at the front, and how many bytes spell it, of which there may be at most as many as the first argument says
unfoldable pub leb_number : ℕ → List ℕ → Option (ℕ × ℕ)
leb_number zero bytes = None
leb_number (suc more) [] = None
leb_number (suc zero) (byte ∷ bytes) = Some (byte % 128, 1)
leb_number (suc (suc more)) (byte ∷ bytes) =
    if nat_lt byte 128 then Some (byte, 1)
    else option_map (λ read. (byte % 128 + 128 * read.0, suc read.1)) (leb_number (suc more) bytes)

-- a number that is read after some bytes, together with them: what they give, what the next byte weighs, and how many they are
abbrev pub weighed : ℕ → ℕ → ℕ → Option (ℕ × ℕ) → Option (ℕ × ℕ)
weighed value weight passed None = None
weighed value weight passed (Some read) = Some (value + weight * read.0, passed + read.1)

-- what is read, and the bytes after it
abbrev pub leb_read : List ℕ → Option (ℕ × ℕ) → ℕ × List ℕ
leb_read bytes None = (0, bytes)
leb_read bytes (Some read) = (read.0, drop read.1 bytes)

unfoldable pub leb_value : List ℕ → ℕ
leb_value bytes = (leb_read bytes (leb_number 9 bytes)).0

unfoldable pub leb_rest : List ℕ → List ℕ
leb_rest bytes = (leb_read bytes (leb_number 9 bytes)).1
