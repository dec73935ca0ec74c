-- A receiver in the memory of C: what it holds of the numbers of one stream (RFC 3711, 3.3.1 and 3.3.2).
use Rattle.std.specs.Prelude.{◌≡◌, ℕ, ◌+◌, ◌*◌, ◌/◌, ◌%◌, ◌^◌, ◌<◌, Bool, false, slice_index_or}
use Rattle.rtp_base.specs.Bitmap.{bits_of}
use Rattle.rtp_base.specs.Window.{Numbers, WindowState, window_size}
use Rattle.rtp_c.specs.StoredWindow.{IsRestored, HoldsStored, MovesBelow}
use Rattle.rtp_c.specs.declared.receiver.StoredReceiver.{StoredReceiver}

-- the two halves of its bits as one number
abbrev pub recorded_bits : StoredReceiver → ℕ
recorded_bits stored = stored.recorded_high * 2 ^ 64 + stored.recorded_low

-- the window that it holds: the highest number is recorded whatever its bit says
abbrev pub IsWindowOf : StoredReceiver → WindowState → Type 0
IsWindowOf stored window = IsRestored window_size stored.highest (bits_of (recorded_bits stored)) window

-- these numbers were taken: none yet, and the first packet has this rollover count, or those that its window keeps
abbrev pub HoldsNumbers : StoredReceiver → ℕ → Numbers → Type 0
HoldsNumbers stored count taken = HoldsStored window_size stored.highest (bits_of (recorded_bits stored)) stored.started count taken

-- a receiver that has taken nothing yet, whose first packet has this rollover count
abbrev pub unstarted : ℕ → StoredReceiver
unstarted count = record { highest = count * 65536; recorded_low = 0; recorded_high = 0; started = 0 }

-- a receiver that has taken a number: `started` is 1, and the bit of the highest number is set
pub record IsStarted (stored : StoredReceiver) : Type 0 where
  pub started_is : stored.started ≡ 1
  pub highest_bit : stored.recorded_low % 2 ≡ 1

-- the same receiver with `started` 1 and the bit of the highest number set
abbrev pub stored_again : StoredReceiver → StoredReceiver
stored_again stored = record stored { recorded_low = stored.recorded_low / 2 * 2 + 1; started = 1 }

-- whether this bit of the receiver is set
abbrev pub bit_of : StoredReceiver → ℕ → Bool
bit_of stored index = slice_index_or (bits_of (recorded_bits stored)) index false

-- the bits past the highest number, where there is no number left
abbrev pub MovesBelowZero : StoredReceiver → StoredReceiver → Type 0
MovesBelowZero old new =
    MovesBelow window_size old.started old.highest new.highest (bits_of (recorded_bits old)) (bits_of (recorded_bits new))

-- What the inside promises itself: each half of the bits has 64 of them.
pub record HasHalves (stored : StoredReceiver) : Type 0 where
  pub low_fits : stored.recorded_low < 2 ^ 64
  pub high_fits : stored.recorded_high < 2 ^ 64

-- and each part of the window is stored
pub record IsStored (window : WindowState) (stored : StoredReceiver) : Type 0 where
  pub started_is : stored.started ≡ 1
  pub highest_is : stored.highest ≡ window.greatest
  pub recorded_are : bits_of (recorded_bits stored) ≡ window.recorded
  pub fits : HasHalves stored
