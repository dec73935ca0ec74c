-- The last digits of a number, zeros included: what the functions of `text` promise each other.
use Rattle.std.specs.Prelude.{ℕ, ◌+◌, ◌/◌, ◌%◌, List, [], ◌∷◌, ◌++◌}

-- two digits of a number below 100
abbrev pub two_digits : ℕ → List ℕ
two_digits number = (48 + number / 10) ∷ (48 + number % 10) ∷ []

-- four digits of a number below 10,000
abbrev pub four_digits : ℕ → List ℕ
four_digits number = two_digits (number / 100) ++ two_digits (number % 100)
