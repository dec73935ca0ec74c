-- Bytes that are put into a buffer.
use Rattle.std.specs.Prelude.{ℕ, ◌+◌, List, ◌++◌, length, take, drop}

-- the buffer with these bytes from an offset on, and all others as they were
unfoldable pub overwritten : List ℕ → ℕ → List ℕ → List ℕ
overwritten buf at bytes = take at buf ++ (bytes ++ drop (at + length bytes) buf)
