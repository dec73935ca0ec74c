-- What a receiver of a stream whose sender may start again holds of the packets that came.
use Rattle.std.specs.Prelude.{◌≡◌, ℕ, suc, ◌+◌, ◌*◌, ◌%◌, ◌^◌, ◌≤◌, ◌⊎◌, ◌↔◌, List, ◌∷◌, false, Option, Some, None}
use Rattle.rtp_base.specs.Window.{Numbers, WindowState}
use Rattle.rtp_receive.specs.Receiver.{HoldsOf}
use Rattle.rtp_receive.specs.Restarting.{Bounds, IsOutside, Arrival, taken_in, LeadUp, IsNext, IsRestartingRun, HasNoPair, IsOneEpoch}
use Rattle.rtp_receive.specs.EpochRun.{IsRunInEpoch, AreRising}
use Rattle.rtp_receive.specs.declared.restarting.RestartingStreamReceiver.{RestartingStreamReceiver}
use Rattle.rtp_receive.specs.declared.restarting_bounds.RestartingBounds.{RestartingBounds}
use Rattle.rtp_receive.specs.declared.restarting_verdict.RestartingVerdict.{RestartingVerdict}
use Rattle.rtp_receive.specs.declared.restarting_verdict.RestartingVerdict.TheVariants.{Taken, Refused}

-- MAX_MISORDER: what its caller chose, or else the size of the window
abbrev pub misorder_in : ℕ → Option ℕ → ℕ
misorder_in size None = size
misorder_in size (Some max_misorder) = max_misorder

-- what its caller chose, with a window of this size
abbrev pub bounds_of_size : {W : Type 0} → ℕ → RestartingStreamReceiver W → Bounds
bounds_of_size size receiver = record {
  max_dropout = receiver.max_dropout;
  max_misorder = misorder_in size receiver.max_misorder;
  size = size;
  min_sequential = receiver.min_sequential;
}

-- the same of what is told apart from the receiver
abbrev pub bounds_at : ℕ → RestartingBounds → Bounds
bounds_at size bounds = record { max_dropout = bounds.max_dropout; max_misorder = bounds.max_misorder; size = size; min_sequential = bounds.min_sequential }

-- it holds the numbers taken in the epoch; the first epoch starts at this rollover count
abbrev pub HoldsEpochOf : {W : Type 0} → ℕ → RestartingStreamReceiver W → ℕ → Numbers → Type 0
HoldsEpochOf size receiver count taken = HoldsOf size receiver.receiver count taken

-- by a row of this many packets as many lead up to a packet of these 16 bits: none, or at most all of them where the bits are those that come next
abbrev pub Leads : ℕ → ℕ → ℕ → ℕ → Type 0
Leads in_row next low k = (k ≡ 0) ⊎ ((k ≤ in_row) × (low ≡ next))

-- a packet makes the row longer where it is outside of the stream and refused, and else ends it
abbrev pub Grows : Bounds → Numbers → ℕ → RestartingVerdict → ℕ → ℕ → ℕ → ℕ → Type 0
Grows bounds taken low verdict old_in_row old_next in_row next = (later k : ℕ) → suc k ≤ 255 →
    Leads in_row next later (suc k) ↔ ((verdict ≡ Refused) × IsOutside bounds taken low × (later ≡ (low + 1) % 65536) × Leads old_in_row old_next low k)

-- the same of a receiver
abbrev pub RowLeadsOf : {W : Type 0} → RestartingStreamReceiver W → ℕ → ℕ → Type 0
RowLeadsOf receiver = Leads receiver.row.len receiver.row.next

abbrev pub RowGrowsOf : {W : Type 0} → ℕ → RestartingStreamReceiver W → Numbers → ℕ → RestartingVerdict → RestartingStreamReceiver W → Type 0
RowGrowsOf size old taken low verdict new = Grows (bounds_of_size size old) taken low verdict old.row.len old.row.next new.row.len new.row.next

-- it started at the rollover count 1, and is what these packets have left, of which the latest comes first
pub record RemembersOf {W : Type 0} (size : ℕ) (receiver : RestartingStreamReceiver W) (before : List Arrival) : Type 0 where
  pub run : IsRestartingRun (bounds_of_size size receiver) before
  pub holds : HoldsEpochOf size receiver 1 (taken_in before)
  pub few : receiver.min_sequential ≤ 255
  pub row : (low k : ℕ) → k ≤ 255 → LeadUp (bounds_of_size size receiver) before low k ↔ RowLeadsOf receiver low k

-- a packet gets its verdict by these packets that came before it, of which the latest comes first, and is remembered with them: without two in a row that are outside of the stream there is one epoch; within an epoch those of the stream are judged as if the sender never started again, and no number is taken twice; and each number of an epoch is above all those of the epochs before it
pub record FollowsOf {W : Type 0} (size : ℕ) (old new : RestartingStreamReceiver W) (before : List Arrival) (arrival : Arrival) : Type 0 where
  pub next : IsNext (bounds_of_size size old) before arrival
  pub after : RemembersOf size new (arrival ∷ before)
  pub one_epoch : HasNoPair (bounds_of_size size old) (arrival ∷ before) → IsOneEpoch (arrival ∷ before)
  pub in_epoch : IsRunInEpoch (bounds_of_size size old) (arrival ∷ before)
  pub once : (number : ℕ) → arrival.verdict ≡ Taken number → taken_in before number ≡ false
  pub rising : size ≤ 2 ^ 63 → AreRising (arrival ∷ before)

-- ---- the same of `RestartingReceiver`, whose window has 64 numbers for each of its words

-- the receiver itself
abbrev pub RestartingReceiver : ℕ → Type 0
RestartingReceiver words = RestartingStreamReceiver WindowState

-- what its caller chose
abbrev pub bounds_of : (words : ℕ) → RestartingReceiver words → Bounds
bounds_of words = bounds_of_size (64 * words)

-- it holds the numbers taken in the epoch
abbrev pub HoldsEpoch : (words : ℕ) → RestartingReceiver words → ℕ → Numbers → Type 0
HoldsEpoch words = HoldsEpochOf (64 * words)

-- so many packets of its row lead up to a packet
abbrev pub RowLeads : (words : ℕ) → RestartingReceiver words → ℕ → ℕ → Type 0
RowLeads words = RowLeadsOf

-- a packet makes its row longer, or ends it
abbrev pub RowGrows : (words : ℕ) → RestartingReceiver words → Numbers → ℕ → RestartingVerdict → RestartingReceiver words → Type 0
RowGrows words = RowGrowsOf (64 * words)

-- it is what these packets have left
abbrev pub Remembers : (words : ℕ) → RestartingReceiver words → List Arrival → Type 0
Remembers words = RemembersOf (64 * words)
