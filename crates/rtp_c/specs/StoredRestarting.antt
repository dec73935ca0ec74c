-- A receiver in the memory of C whose sender may start again, and what it says of a packet (RFC 3550, appendix A.1).
use Rattle.std.specs.Prelude.{◌≡◌, ℕ, ◌<◌, ◌⊎◌, ◌==◌, if◌then◌else◌, ℤ}
use Rattle.rtp_base.specs.Ring.{ring_bits}
use Rattle.rtp_base.specs.Window.{Numbers, window_size}
use Rattle.rtp_receive.specs.Receiver.{IsNothing}
use Rattle.rtp_receive.specs.Restarting.{Bounds, IsRestartingVerdict, epoch_after}
use Rattle.rtp_receive.specs.RestartingState.{Leads, Grows}
use Rattle.rtp_receive.specs.declared.restarting_verdict.RestartingVerdict.{RestartingVerdict}
use Rattle.rtp_receive.specs.declared.restarting_verdict.RestartingVerdict.TheVariants.{Taken, Restarted, Refused}
use Rattle.rtp_c.specs.declared.restarting.StoredRestarting.{StoredRestarting}
use Rattle.rtp_c.specs.Status.{ok, refused, restarted}
use Rattle.rtp_c.specs.StoredWindow.{HoldsWindow, HasStarted}

-- what its caller chose: MAX_DROPOUT is 3,000 where 0 is stored, and MAX_MISORDER the size of the window
abbrev pub bounds_in : StoredRestarting → Bounds
bounds_in stored = record { max_dropout = if stored.max_dropout == 0 then 3000 else stored.max_dropout; max_misorder = window_size; size = window_size; min_sequential = stored.min_sequential }

-- these numbers were taken in the epoch: none yet, or those that the window in its words keeps
abbrev pub HoldsIn : StoredRestarting → Numbers → Type 0
HoldsIn stored taken =
    ((stored.started ≡ 0) × IsNothing taken) ⊎ ((0 < stored.started) × HoldsWindow window_size stored.highest (ring_bits stored.words stored.highest) taken)

-- a receiver that has taken a number
abbrev pub IsStartedIn : StoredRestarting → Type 0
IsStartedIn stored = HasStarted stored.started stored.highest stored.words

-- the status and the number that tell a verdict
abbrev pub IsTold : RestartingVerdict → ℤ → ℕ → Type 0
IsTold (Taken number) status written = (status ≡ ok) × (written ≡ number)
IsTold (Restarted number) status written = (status ≡ restarted) × (written ≡ number)
IsTold Refused status written = status ≡ refused

-- the verdict on a packet by what is stored, how it is told, and what is stored then; the first epoch starts at the rollover count 1
pub record IsAnsweredIn (old : StoredRestarting) (taken : Numbers) (low : ℕ) (status : ℤ) (written : ℕ) (new : StoredRestarting) : Type 0 where
  pub verdict : RestartingVerdict
  pub judged : IsRestartingVerdict (bounds_in old) 1 taken (Leads old.in_row old.next low) low verdict
  pub told : IsTold verdict status written
  pub epoch : HoldsIn new (epoch_after taken verdict)
  pub row : Grows (bounds_in old) taken low verdict old.in_row old.next new.in_row new.next
