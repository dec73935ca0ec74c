-- The moment of a send time (abs-send-time) that is known modulo 64 seconds only, as its 24 bits carry it: all in microseconds.
use Rattle.std.specs.Prelude.{◌≡◌, ℕ, ◌%◌, ◌≤◌, ◌⊎◌}

-- a moment not after now that is equal to the value modulo 64 seconds
pub record IsPossible (now value moment : ℕ) : Type 0 where
  pub past : moment ≤ now
  pub same : moment % 64000000 ≡ value % 64000000

-- the latest such moment
pub record IsLatest (now value moment : ℕ) : Type 0 where
  pub possible : IsPossible now value moment
  pub latest : (other : ℕ) → IsPossible now value other → other ≤ moment

-- the latest moment not after now that is equal to the value modulo 64 seconds, and the value itself where there is none
abbrev pub IsRecovered : ℕ → ℕ → ℕ → Type 0
IsRecovered now value moment =
    IsLatest now value moment ⊎ (((other : ℕ) → IsPossible now value other → ⊥) × (moment ≡ value))
