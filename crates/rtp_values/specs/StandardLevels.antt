-- Audio levels of the CSRCs of a packet (RFC 6465, 4): a byte for each, with 7 bits.
use Rattle.std.specs.Prelude.{ℕ, ℤ, pos, negsuc, neg_ℤ, ◌%◌, ◌≤ℤ◌}

-- a level in decibels relative to the overload point: -127 is silence, and 0 the loudest
abbrev pub IsLevel : ℤ → Type 0
IsLevel level = (negsuc 126 ≤ℤ level) × (level ≤ℤ pos 0)

-- the level in a byte, whose high bit says nothing
abbrev pub level_in : ℕ → ℤ
level_in byte = neg_ℤ (pos (byte % 128))
