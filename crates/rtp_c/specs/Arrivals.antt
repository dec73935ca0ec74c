-- What several receivers in the memory of C say of sequence numbers that come one after the other (RFC 3711, 3.3.1 and 3.3.2).
use Rattle.std.specs.Prelude.{◌≡◌, ℕ, ◌<◌, ◌≤◌, ◌≢◌, List, [], ◌∷◌, length, slice_index_or, slice_set}
use Rattle.rtp_base.specs.Window.{Numbers}
use Rattle.rtp_c.specs.declared.receiver.StoredReceiver.{StoredReceiver}
use Rattle.rtp_c.specs.declared.arrivals.Arrival.{Arrival}
use Rattle.rtp_c.specs.Status.{ok, bad_field}
use Rattle.rtp_c.specs.StoredReceiver.{HoldsNumbers, MovesBelowZero, unstarted}
use Rattle.rtp_c.specs.Judging.{IsJudgedBy}

-- this receiver takes the sequence number or refuses it, and becomes that one
pub record IsReceivedBy (receiver : StoredReceiver) (old new : Arrival) (after : StoredReceiver) : Type 0 where
  pub judged : (count : ℕ) (taken : Numbers) → HoldsNumbers receiver count taken → IsJudgedBy count taken old.sequence_number new.status new.number after
  pub below_zero : MovesBelowZero receiver after
  pub unchanged : new.status ≢ ok → (after ≡ receiver) × (new.number ≡ old.number)

-- the receiver at this place, where there is one
abbrev pub receiver_at : List StoredReceiver → ℕ → StoredReceiver
receiver_at receivers place = slice_index_or receivers place (unstarted 0)

-- the receiver at its place takes the sequence number or refuses it, and the others stay; where none is there all stay
pub record IsReceived (receivers : List StoredReceiver) (old new : Arrival) (after : List StoredReceiver) : Type 0 where
  pub receiver_is : new.receiver ≡ old.receiver
  pub sequence_number_is : new.sequence_number ≡ old.sequence_number
  pub there : old.receiver < length receivers →
      (next : StoredReceiver) × IsReceivedBy (receiver_at receivers old.receiver) old new next × (after ≡ slice_set receivers old.receiver next)
  pub none_there : length receivers ≤ old.receiver → (new.status ≡ bad_field) × (new.number ≡ old.number) × (after ≡ receivers)

-- the receivers take the sequence numbers or refuse them, one after the other
abbrev pub AreReceived : List StoredReceiver → List Arrival → List Arrival → List StoredReceiver → Type 0
AreReceived receivers [] [] after = after ≡ receivers
AreReceived receivers (old ∷ olds) (new ∷ news) after =
    (next : List StoredReceiver) × IsReceived receivers old new next × AreReceived next olds news after
AreReceived receivers _ _ after = ⊥
