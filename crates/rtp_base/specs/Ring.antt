-- A replay window in words of 64 bits: where each number has its bit, and which window the words hold.
use Rattle.std.specs.Prelude.{ℕ, ◌+◌, ◌-◌, ◌*◌, ◌/◌, ◌%◌, ◌==◌, List, Bool, length, map, slice_index}
use Rattle.std.specs.Int.{bit_at}
use Rattle.std.specs.List.{range_with_len}
use Rattle.rtp_base.specs.Window.{WindowState}

-- how many numbers the words tell apart
abbrev pub ring_size : List ℕ → ℕ
ring_size words = 64 * length words

-- whether the number's bit is set: 64 numbers to a word, and after the last word the first again
unfoldable pub ring_bit : List ℕ → ℕ → Bool
ring_bit words number = bit_at (slice_index words (number / 64 % length words)) (number % 64) == 1

-- at each index below the size the bit of the greatest number minus the index, counted round the ring below zero
unfoldable pub ring_bits : List ℕ → ℕ → List Bool
ring_bits words greatest = map (λ index. ring_bit words (greatest + ring_size words - index)) (range_with_len 0 (ring_size words))

-- the state of the window that these words and its greatest number are
abbrev pub ring_window : List ℕ → ℕ → WindowState
ring_window words greatest = record { greatest = greatest; recorded = ring_bits words greatest }
