-- Numbers of up to 63 bits as LEB128 bytes: seven bits in each byte, the lowest first (video-layers-allocation00, target bitrates).
use Rattle.std.specs.Prelude.{◌≡◌, ℕ, zero, suc, ◌+◌, ◌*◌, ◌/◌, ◌%◌, ◌<◌, ◌≤◌, ◌⊎◌, List, [], ◌∷◌, ◌++◌, length, nat_lt, if◌then◌else◌}
use Rattle.std.specs.List.{AllByRecursion}

-- the number that bytes give: the low seven bits of each, those of the first byte lowest
abbrev pub base128_value : List ℕ → ℕ
base128_value [] = 0
base128_value (byte ∷ bytes) = byte % 128 + 128 * base128_value bytes

-- the bytes spell the number: one to nine, of which all but the last have the top bit set; the last has it clear, unless it is the ninth
pub record IsLeb (value : ℕ) (bytes : List ℕ) : Type 0 where
  pub front : List ℕ
  pub last : ℕ
  pub bytes_are : bytes ≡ front ++ last ∷ []
  pub at_most_nine : length front ≤ 8
  pub continued : AllByRecursion (λ byte. 128 ≤ byte) front
  pub ended : (last < 128) ⊎ (length front ≡ 8)
  pub value_is : value ≡ base128_value bytes

-- no front of the bytes spells a number
abbrev pub BeginsNoLeb : List ℕ → Type 0
BeginsNoLeb bytes = (value : ℕ) (front rest : List ℕ) → bytes ≡ front ++ rest → IsLeb value front → ⊥

-- what is read at the front of the bytes, and what follows it: a number and the bytes after its spelling, or 0 and all bytes where none is spelled
pub data ReadsLeb (bytes : List ℕ) (value : ℕ) (rest : List ℕ) : Type 0 where
  spelled : (front : List ℕ) → bytes ≡ front ++ rest → IsLeb value front → ReadsLeb bytes value rest
  unspelled : BeginsNoLeb bytes → value ≡ 0 → rest ≡ bytes → ReadsLeb bytes value rest

-- the shortest spelling of the number: no other has fewer bytes, and its last byte has the top bit clear
pub record IsShortest (value : ℕ) (bytes : List ℕ) : Type 0 where
  pub spells : IsLeb value bytes
  pub shortest : (other : List ℕ) → IsLeb value other → length bytes ≤ length other
  pub ends_low : spells.last < 128

-- the bytes of that spelling, where at most `room` bytes suffice
unfoldable pub leb_of : ℕ → ℕ → List ℕ
leb_of zero value = []
leb_of (suc room) value = if nat_lt value 128 then value ∷ [] else (value % 128 + 128) ∷ leb_of room (value / 128)

-- the bytes of the shortest spelling, for a number below 2^63
unfoldable pub shortest_of : ℕ → List ℕ
shortest_of value = leb_of 9 value
