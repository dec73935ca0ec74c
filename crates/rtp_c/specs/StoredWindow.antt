-- A replay window in the memory of C, of any size: its highest number, a bit for that and for each number below it, and whether any number was taken (RFC 3711, 3.3.1 and 3.3.2).
use Rattle.std.specs.Prelude.{◌≡◌, ℕ, ◌-◌, ◌/◌, ◌<◌, ◌⊎◌, List, Bool, true, false, ◌||◌, ◌==◌, slice_index_or}
use Rattle.rtp_base.specs.Ring.{ring_bit}
use Rattle.rtp_base.specs.Window.{Numbers, WindowState, KeepsOf}
use Rattle.rtp_receive.specs.Receiver.{IsNothing}

-- the window of this highest number and these bits: the highest number is recorded whatever its bit says
pub record IsRestored (size highest : ℕ) (bits : List Bool) (window : WindowState) : Type 0 where
  pub greatest_is : window.greatest ≡ highest
  pub recorded_are : (k : ℕ) → k < size → slice_index_or window.recorded k false ≡ (slice_index_or bits k false || k == 0)

-- these numbers are those that the window keeps
pub record HoldsWindow (size highest : ℕ) (bits : List Bool) (taken : Numbers) : Type 0 where
  pub window : WindowState
  pub is_window : IsRestored size highest bits window
  pub keeps : KeepsOf size window taken

-- these numbers were taken: none yet, and the first packet has this rollover count, or those that the window keeps
abbrev pub HoldsStored : ℕ → ℕ → List Bool → ℕ → ℕ → Numbers → Type 0
HoldsStored size highest bits started count taken =
    ((started ≡ 0) × (highest / 65536 ≡ count) × IsNothing taken) ⊎ ((0 < started) × HoldsWindow size highest bits taken)

-- a number was taken: `started` is 1, and the bit of the highest number is set in the words
pub record HasStarted (started highest : ℕ) (words : List ℕ) : Type 0 where
  pub started_is : started ≡ 1
  pub highest_bit : ring_bit words highest ≡ true

-- the bits past the highest number, where there is no number left: clear once the first number is taken, and then they move with the others
pub record MovesBelow (size started old_highest new_highest : ℕ) (old new : List Bool) : Type 0 where
  pub first : started ≡ 0 → (index : ℕ) → new_highest < index → index < size → slice_index_or new index false ≡ false
  pub later : 0 < started → (index : ℕ) → new_highest < index → index < size
      → slice_index_or new index false ≡ slice_index_or old (index - (new_highest - old_highest)) false
