-- The replay window: the set of numbers that were taken, near its greatest (RFC 3711, 3.3.2).
use Rattle.std.specs.Prelude.{◌≡◌, ℕ, ◌+◌, ◌-◌, ◌<◌, ◌≤◌, ◌⊎◌, List, Bool, false, ◌||◌, ◌==◌, nat_le, IsTrue, slice_index_or}

-- a set of numbers is its test
abbrev pub Numbers : Type 0
Numbers = ℕ → Bool

-- this number alone, all numbers up to it, and a set with it
abbrev pub only : ℕ → Numbers
only number = λ n. n == number

abbrev pub up_to : ℕ → Numbers
up_to number = λ n. nat_le n number

abbrev pub including : Numbers → ℕ → Numbers
including taken number = λ n. taken n || n == number

-- how many numbers `SeqNoWindow` tells apart: the greatest, and the 127 below it
abbrev pub window_size : ℕ
window_size = 128

-- the greatest number of a set
pub record IsGreatest (taken : Numbers) (number : ℕ) : Type 0 where
  pub member : IsTrue (taken number)
  pub top : (n : ℕ) → IsTrue (taken n) → n ≤ number

-- the state of a window: the greatest number, and at each index below its size whether the greatest minus the index is recorded
pub record WindowState : Type 0 where
  pub greatest : ℕ
  pub recorded : List Bool

-- a window of this size keeps the set: both have the same greatest number, and of the numbers less than the size below it those are recorded that are in the set
pub record KeepsOf (size : ℕ) (window : WindowState) (taken : Numbers) : Type 0 where
  pub top : IsGreatest taken window.greatest
  pub recorded : (n : ℕ) → n ≤ window.greatest → window.greatest < n + size
      → slice_index_or window.recorded (window.greatest - n) false ≡ taken n

-- each index past the greatest number, where there is no number left, shows this
abbrev pub ShowsBelowZeroOf : ℕ → WindowState → Bool → Type 0
ShowsBelowZeroOf size window shown = (index : ℕ) → window.greatest < index → index < size → slice_index_or window.recorded index false ≡ shown

-- each index past the greatest number shows what was shown as far past the greatest number before
abbrev pub StaysBelowZeroOf : ℕ → WindowState → WindowState → Type 0
StaysBelowZeroOf size old new = (index : ℕ) → new.greatest < index → index < size
    → slice_index_or new.recorded index false ≡ slice_index_or old.recorded (index - (new.greatest - old.greatest)) false

-- a number that a window of this size may still take: it is above the greatest, or less than the size below it and not in the set
pub record AcceptsOf (size : ℕ) (taken : Numbers) (number : ℕ) : Type 0 where
  pub greatest : ℕ
  pub is_greatest : IsGreatest taken greatest
  pub above_or_new : (greatest < number) ⊎ ((greatest < number + size) × (taken number ≡ false))

-- the same of `SeqNoWindow`
abbrev pub Keeps : WindowState → Numbers → Type 0
Keeps = KeepsOf window_size

abbrev pub ShowsBelowZero : WindowState → Bool → Type 0
ShowsBelowZero = ShowsBelowZeroOf window_size

abbrev pub StaysBelowZero : WindowState → WindowState → Type 0
StaysBelowZero = StaysBelowZeroOf window_size

abbrev pub Accepts : Numbers → ℕ → Type 0
Accepts = AcceptsOf window_size
