-- A receiver in the memory of C whose window has another size: its words are the caller's.
use Rattle.std.specs.Prelude.{◌≡◌, ℕ, ◌*◌, ◌<◌, ◌≤◌, ◌⊎◌, List, length, ℤ}
use Rattle.rtp_base.specs.Ring.{ring_size, ring_bits}
use Rattle.rtp_base.specs.Window.{Numbers, including}
use Rattle.rtp_receive.specs.Receiver.{IsNumberOf, IsFreshOf}
use Rattle.rtp_c.specs.declared.wide_receiver.StoredWideReceiver.{StoredWideReceiver}
use Rattle.rtp_c.specs.Status.{ok, refused}
use Rattle.rtp_c.specs.StoredWindow.{HoldsStored, HasStarted, MovesBelow}

-- as many words as a window may have: its numbers are then told apart by 16 bits
abbrev pub IsWindowLen : List ℕ → Type 0
IsWindowLen words = (0 < length words) × (length words ≤ 512)

-- these numbers were taken: none yet, and the first packet has this rollover count, or those that the window in the words keeps
abbrev pub HoldsIn : StoredWideReceiver → List ℕ → ℕ → Numbers → Type 0
HoldsIn stored words count taken = HoldsStored (ring_size words) stored.highest (ring_bits words stored.highest) stored.started count taken

-- a receiver that has taken nothing yet, whose first packet has this rollover count
abbrev pub unstarted : ℕ → StoredWideReceiver
unstarted count = record { highest = count * 65536; started = 0 }

-- a receiver that has taken a number
abbrev pub IsStartedIn : StoredWideReceiver → List ℕ → Type 0
IsStartedIn stored words = HasStarted stored.started stored.highest words

-- the bits past the highest number, where there is no number left
abbrev pub MovesBelowZeroIn : StoredWideReceiver → List ℕ → StoredWideReceiver → List ℕ → Type 0
MovesBelowZeroIn old old_words new new_words =
    MovesBelow (ring_size old_words) old.started old.highest new.highest (ring_bits old_words old.highest) (ring_bits new_words new.highest)

-- the number is taken: it may be, and the receiver holds it too and is stored as one that has started
pub record IsTakenIn (count : ℕ) (taken : Numbers) (number : ℕ) (after : StoredWideReceiver) (words : List ℕ) : Type 0 where
  pub fresh : IsFreshOf (ring_size words) taken number
  pub recorded : HoldsIn after words count (including taken number)
  pub started : IsStartedIn after words

-- this number is taken where it may be, and else refused
abbrev pub IsJudgedIn : ℕ → Numbers → ℕ → ℤ → StoredWideReceiver → List ℕ → Type 0
IsJudgedIn count taken number status after words =
    ((status ≡ ok) × IsTakenIn count taken number after words) ⊎ ((status ≡ refused) × (IsFreshOf (ring_size words) taken number → ⊥))

-- this number is taken where it may be, and then written, and else refused
abbrev pub IsReceivedAs : ℕ → Numbers → ℕ → ℤ → ℕ → StoredWideReceiver → List ℕ → Type 0
IsReceivedAs count taken number status written after words =
    ((status ≡ ok) × (written ≡ number) × IsTakenIn count taken number after words) ⊎ ((status ≡ refused) × (IsFreshOf (ring_size words) taken number → ⊥))

-- the packet of this sequence number has a number, which is taken where it may be, and then written, and else refused
pub record IsReceivedIn (count : ℕ) (taken : Numbers) (sequence_number : ℕ) (status : ℤ) (written : ℕ) (after : StoredWideReceiver) (words : List ℕ) : Type 0 where
  pub number : ℕ
  pub is_number : IsNumberOf count taken sequence_number number
  pub received : IsReceivedAs count taken number status written after words
