-- The bits of a byte, as the pictures of standards show them.
use Rattle.std.specs.Prelude.{◌==◌, ℕ, ◌/◌, ◌%◌, ◌^◌, Bool}

-- whether a bit of a byte is set: bit 0 is the low one, the last of the picture, and bit 7 the high one
abbrev pub has_bit : ℕ → ℕ → Bool
has_bit place byte = byte / 2 ^ place % 2 == 1
