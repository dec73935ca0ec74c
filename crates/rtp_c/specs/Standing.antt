-- What C is told that a receiver knows of a number.
use Rattle.std.specs.Prelude.{◌≡◌, ℕ}
use Rattle.rtp_base.specs.Window.{Numbers}
use Rattle.rtp_receive.specs.Receiver.{HasStandingOf}
use Rattle.rtp_receive.specs.declared.standing.Standing.{Standing}
use Rattle.rtp_receive.specs.declared.standing.Standing.TheVariants.{New, Taken, TooOld}

-- the number of each
abbrev pub standing_number : Standing → ℕ
standing_number New = 0
standing_number Taken = 1
standing_number TooOld = 2

-- no window has so many words
abbrev pub no_window : ℕ
no_window = 3

-- this is what is known of a number, where these are taken and a window of this size told them apart
pub record IsStanding (size : ℕ) (taken : Numbers) (number told : ℕ) : Type 0 where
  pub standing : Standing
  pub has : HasStandingOf size taken number standing
  pub told_is : told ≡ standing_number standing
