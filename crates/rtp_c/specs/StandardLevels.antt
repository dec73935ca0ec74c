-- Audio levels of the CSRCs of a packet (RFC 6465, 4), as C gives them.
use Rattle.std.specs.Prelude.{◌≡◌, ◌≤◌, List, ℕ, ℤ, All, length, map, unsigned_abs}
use Rattle.rtp_values.specs.StandardLevels.{IsLevel}

-- the data of the levels of a packet's CSRCs, of which there are at most fifteen (RFC 3550, 5.1)
pub record AreLevelsData (levels : List ℤ) (bytes : List ℕ) : Type 0 where
  pub few : length levels ≤ 15
  pub are_levels : All IsLevel levels
  pub bytes_are : bytes ≡ map unsigned_abs levels
