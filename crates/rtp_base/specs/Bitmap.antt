-- The 128 bits of a number as truth values.
use Rattle.std.specs.Prelude.{ℕ, ◌==◌, List, Bool, map}
use Rattle.std.specs.Int.{bit_at}
use Rattle.std.specs.List.{range_with_len}

-- whether each bit is set, from the lowest up
unfoldable pub bits_of : ℕ → List Bool
bits_of number = map (λ i. bit_at number i == 1) (range_with_len 0 128)
