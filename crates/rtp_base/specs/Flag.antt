-- A flag of a header as the number of its bit (RFC 3550, 5.1).
use Rattle.std.specs.Prelude.{ℕ, Bool, true, false}

-- 0 for a bit that is clear, and 1 for one that is set
abbrev pub bit : Bool → ℕ
bit false = 0
bit true = 1
