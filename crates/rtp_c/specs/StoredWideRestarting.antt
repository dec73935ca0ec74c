-- A receiver in the memory of C whose sender may start again, with a window of another size: its words are the caller's (RFC 3550, appendix A.1).
use Rattle.std.specs.Prelude.{◌≡◌, ℕ, ◌<◌, ◌⊎◌, ◌==◌, if◌then◌else◌, max, List, ℤ}
use Rattle.rtp_base.specs.Ring.{ring_size, ring_bits}
use Rattle.rtp_base.specs.Window.{Numbers}
use Rattle.rtp_receive.specs.Receiver.{IsNothing}
use Rattle.rtp_receive.specs.Restarting.{Bounds, IsRestartingVerdict, epoch_after}
use Rattle.rtp_receive.specs.RestartingState.{Leads, Grows}
use Rattle.rtp_receive.specs.declared.restarting_verdict.RestartingVerdict.{RestartingVerdict}
use Rattle.rtp_c.specs.declared.wide_receiver.StoredWideReceiver.{StoredWideReceiver}
use Rattle.rtp_c.specs.declared.wide_restarting.StoredWideRestarting.{StoredWideRestarting}
use Rattle.rtp_c.specs.StoredRestarting.{IsTold}
use Rattle.rtp_c.specs.StoredWindow.{HoldsWindow, HasStarted}

-- MAX_MISORDER where 0 is stored: 3,000, or the size of the window where that is more
abbrev pub usual_misorder : List ℕ → ℕ
usual_misorder words = max 3000 (ring_size words)

-- what its caller chose, with a window of these words: MAX_DROPOUT is 3,000 where 0 is stored
abbrev pub bounds_with : StoredWideRestarting → List ℕ → Bounds
bounds_with stored words = record {
  max_dropout = if stored.max_dropout == 0 then 3000 else stored.max_dropout;
  max_misorder = if stored.max_misorder == 0 then usual_misorder words else stored.max_misorder;
  size = ring_size words;
  min_sequential = stored.min_sequential;
}

-- what its caller chose is stored as it was
pub record HasTheSameBounds (old new : StoredWideRestarting) : Type 0 where
  pub max_dropout : new.max_dropout ≡ old.max_dropout
  pub max_misorder : new.max_misorder ≡ old.max_misorder
  pub min_sequential : new.min_sequential ≡ old.min_sequential

-- these numbers were taken in the epoch: none yet, or those that the window in the words keeps
abbrev pub HoldsWith : StoredWideRestarting → List ℕ → Numbers → Type 0
HoldsWith stored words taken =
    ((stored.started ≡ 0) × IsNothing taken) ⊎ ((0 < stored.started) × HoldsWindow (ring_size words) stored.highest (ring_bits words stored.highest) taken)

-- a receiver that has taken a number
abbrev pub IsStartedWith : StoredWideRestarting → List ℕ → Type 0
IsStartedWith stored words = HasStarted stored.started stored.highest words

-- what it holds, as a receiver of a sender that never starts again
abbrev pub epoch_in : StoredWideRestarting → StoredWideReceiver
epoch_in stored = record { highest = stored.highest; started = stored.started }

-- the verdict on a packet by what is stored, how it is told, and what is stored then; the first epoch starts at the rollover count 1
pub record IsAnsweredWith (old : StoredWideRestarting) (old_words : List ℕ) (taken : Numbers) (low : ℕ) (status : ℤ) (written : ℕ) (new : StoredWideRestarting) (words : List ℕ) : Type 0 where
  pub verdict : RestartingVerdict
  pub judged : IsRestartingVerdict (bounds_with old old_words) 1 taken (Leads old.in_row old.next low) low verdict
  pub told : IsTold verdict status written
  pub epoch : HoldsWith new words (epoch_after taken verdict)
  pub row : Grows (bounds_with old old_words) taken low verdict old.in_row old.next new.in_row new.next
