-- The data of an element as its standard has them: read, and written to a buffer.
use Rattle.std.specs.Prelude.{◌≡◌, ◌≢◌, ◌↔◌, ◌⊎◌, ℕ, ◌<◌, List, ◌++◌, length, drop, ℤ}
use Rattle.rtp_c.specs.Status.{ok, short_buffer, bad_field}

-- what reading data comes to: the value that they say is told exactly where they can be read, and else nothing is written
pub record TellsValue {Value : Type 0} (IsSaid : Value → Type 0) (CanBeRead : Type 0) (old new : Value) (status : ℤ) : Type 0 where
  pub read : status ≡ ok → IsSaid new
  pub is_ok : (status ≡ ok) ↔ CanBeRead
  pub statuses : (status ≡ ok) ⊎ (status ≡ bad_field)
  pub unchanged : status ≢ ok → new ≡ old

-- the bytes stand at the front of the buffer, whose other bytes are as they were, and it is told how many they are
pub record StandAtFront (bytes old new : List ℕ) (len : ℕ) : Type 0 where
  pub len_is : len ≡ length bytes
  pub written : new ≡ bytes ++ drop len old

-- what putting the bytes to the front of a buffer comes to: nothing is written where there isn't room for them
pub record PutsBytes (bytes old new : List ℕ) (old_len len : ℕ) (status : ℤ) : Type 0 where
  pub written : status ≡ ok → StandAtFront bytes old new len
  pub short : (status ≡ short_buffer) ↔ (length old < length bytes)
  pub statuses : (status ≡ ok) ⊎ (status ≡ short_buffer)
  pub unchanged : status ≢ ok → (new ≡ old) × (len ≡ old_len)

-- data of this kind stand there
pub record AreWritten (AreData : List ℕ → Type 0) (old new : List ℕ) (len : ℕ) : Type 0 where
  pub bytes : List ℕ
  pub are_data : AreData bytes
  pub stand : StandAtFront bytes old new len

-- the data take more than the room
pub record AreTooLong (AreData : List ℕ → Type 0) (room : ℕ) : Type 0 where
  pub bytes : List ℕ
  pub are_data : AreData bytes
  pub too_long : room < length bytes

-- there are no data
abbrev pub AreNone : (List ℕ → Type 0) → Type 0
AreNone AreData = (bytes : List ℕ) → AreData bytes → ⊥

-- what writing the data of a value comes to: nothing is written where there are none, or only the room for them is short
pub record WritesData (AreData : List ℕ → Type 0) (old new : List ℕ) (old_len len : ℕ) (status : ℤ) : Type 0 where
  pub written : status ≡ ok → AreWritten AreData old new len
  pub short : status ≡ short_buffer → AreTooLong AreData (length old)
  pub is_bad : (status ≡ bad_field) ↔ AreNone AreData
  pub statuses : (status ≡ ok) ⊎ ((status ≡ short_buffer) ⊎ (status ≡ bad_field))
  pub unchanged : status ≢ ok → (new ≡ old) × (len ≡ old_len)
