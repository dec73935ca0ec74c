-- What a receiver in the memory of C says of a packet (RFC 3711, 3.3.1 and 3.3.2).
use Rattle.std.specs.Prelude.{◌≡◌, ℕ, ◌⊎◌, ℤ}
use Rattle.rtp_base.specs.Window.{Numbers, including}
use Rattle.rtp_receive.specs.Receiver.{IsNumberOf, IsFresh}
use Rattle.rtp_c.specs.declared.receiver.StoredReceiver.{StoredReceiver}
use Rattle.rtp_c.specs.Status.{ok, refused}
use Rattle.rtp_c.specs.StoredReceiver.{HoldsNumbers, IsStarted}

-- the number is taken: it may be, it is the one that is written, and the receiver holds it too and is stored as one that has started
pub record IsTaken (count : ℕ) (taken : Numbers) (number written : ℕ) (after : StoredReceiver) : Type 0 where
  pub fresh : IsFresh taken number
  pub written_is : written ≡ number
  pub recorded : HoldsNumbers after count (including taken number)
  pub started : IsStarted after

-- this number is taken where it may be, and else refused
abbrev pub IsJudgedAs : ℕ → Numbers → ℕ → ℤ → ℕ → StoredReceiver → Type 0
IsJudgedAs count taken number status written after =
    ((status ≡ ok) × IsTaken count taken number written after) ⊎ ((status ≡ refused) × (IsFresh taken number → ⊥))

-- the packet of this sequence number has a number, which is taken where it may be, and else refused
pub record IsJudgedBy (count : ℕ) (taken : Numbers) (sequence_number : ℕ) (status : ℤ) (written : ℕ) (after : StoredReceiver) : Type 0 where
  pub number : ℕ
  pub is_number : IsNumberOf count taken sequence_number number
  pub judged : IsJudgedAs count taken number status written after
