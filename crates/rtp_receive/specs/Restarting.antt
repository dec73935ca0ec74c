-- A stream whose sender may start again, judged by the packets' 16 bits alone (RFC 3550, appendix A.1).
use Rattle.std.specs.Prelude.{◌≡◌, ℕ, zero, suc, ◌+◌, ◌-◌, ◌*◌, ◌/◌, ◌%◌, ◌^◌, ◌<◌, ◌⊎◌, List, [], ◌∷◌, false, Option, Some, None}
use Rattle.rtp_base.specs.Window.{Numbers, only, including, IsGreatest}
use Rattle.rtp_receive.specs.Widening.{IsNearest}
use Rattle.rtp_receive.specs.Receiver.{IsHighest, IsFreshOf, IsJudgedOf}
use Rattle.rtp_receive.specs.declared.receiver.Verdict.{Verdict}
use Rattle.rtp_receive.specs.declared.receiver.Verdict.TheVariants as plain
use Rattle.rtp_receive.specs.declared.restarting_verdict.RestartingVerdict.{RestartingVerdict}
use Rattle.rtp_receive.specs.declared.restarting_verdict.RestartingVerdict.TheVariants.{Taken, Restarted, Refused}

-- what a caller chooses: how far ahead of the highest number a packet of the stream is less than, and how far behind it, how many numbers there are from the highest down to the last that the window tells apart, and how many packets in a row make a new source valid
pub record Bounds : Type 0 where
  pub max_dropout : ℕ
  pub max_misorder : ℕ
  pub size : ℕ
  pub min_sequential : ℕ

-- the packet is of the stream, with this number: the nearest to the highest one taken, less than MAX_DROPOUT above it, or less than MAX_MISORDER below it
pub record IsOfStream (bounds : Bounds) (taken : Numbers) (low number : ℕ) : Type 0 where
  pub highest : ℕ
  pub is_highest : IsGreatest taken highest
  pub nearest : IsNearest 16 highest low number
  pub ahead : number < highest + bounds.max_dropout
  pub behind : highest < number + bounds.max_misorder

-- the packet isn't of the stream, or there is none yet
abbrev pub IsOutside : Bounds → Numbers → ℕ → Type 0
IsOutside bounds taken low = (number : ℕ) → IsOfStream bounds taken low number → ⊥

-- how many packets outside of the stream lead up to the first one of an epoch, by MIN_SEQUENTIAL
abbrev pub leading_after : ℕ → Option ℕ → ℕ
leading_after min_sequential None = min_sequential - 1
leading_after min_sequential (Some highest) = 1

-- how many packets outside of the stream, each with the number after the one before it, lead up to the first packet of an epoch: one where the sender starts again, and one less than MIN_SEQUENTIAL where the source is new
abbrev pub leading : Bounds → Option ℕ → ℕ
leading bounds = leading_after bounds.min_sequential

-- the number of the first packet of an epoch after one with this highest number: its 16 bits, under the highest one's rollover count and 2 more, so that all numbers of an epoch are above those of the epochs before it
abbrev pub restarted_number : ℕ → ℕ → ℕ
restarted_number highest low = 65536 * (highest / 65536 + 2) + low % 65536

-- the number of an epoch's first packet; where the source is new it has this rollover count
abbrev pub first_number : ℕ → Option ℕ → ℕ → ℕ
first_number count None low = 65536 * count + low % 65536
first_number count (Some highest) low = restarted_number highest low

-- an epoch begins with a packet of this number, after this highest one: the number has 64 bits, and as many packets lead up to it as must
pub record BeginsAt (min_sequential count : ℕ) (highest : Option ℕ) (Lead : ℕ → Type 0) (low number : ℕ) : Type 0 where
  pub number_is : number ≡ first_number count highest low
  pub fits : number < 2 ^ 64
  pub lead : Lead (leading_after min_sequential highest)

-- how the first packet of an epoch is answered
abbrev pub announced : Option ℕ → ℕ → RestartingVerdict
announced None number = Taken number
announced (Some highest) number = Restarted number

-- the verdict on a packet as the first one of an epoch, if its number has 64 bits
pub record IsFirst (count : ℕ) (taken : Numbers) (low : ℕ) (verdict : RestartingVerdict) : Type 0 where
  pub highest : Option ℕ
  pub is_highest : IsHighest taken highest
  pub fits : first_number count highest low < 2 ^ 64
  pub verdict_is : verdict ≡ announced highest (first_number count highest low)

-- an epoch begins with this packet, and as many lead up to it as must; `Lead k` says that k packets do
pub record Begins (bounds : Bounds) (count : ℕ) (taken : Numbers) (Lead : ℕ → Type 0) (low : ℕ) (verdict : RestartingVerdict) : Type 0 where
  pub is_first : IsFirst count taken low verdict
  pub lead : Lead (leading bounds is_first.highest)

-- a packet begins an epoch, or is refused where it can't
abbrev pub BeginsOrRefused : Bounds → ℕ → Numbers → (ℕ → Type 0) → ℕ → RestartingVerdict → Type 0
BeginsOrRefused bounds count taken Lead low verdict =
    Begins bounds count taken Lead low verdict ⊎ ((verdict ≡ Refused) × ((other : RestartingVerdict) → Begins bounds count taken Lead low other → ⊥))

-- what a receiver says of a packet of the stream, as one for a sender that never starts again says it
abbrev pub in_stream : RestartingVerdict → Verdict
in_stream (Taken number) = plain.Taken number
in_stream (Restarted number) = plain.Unreadable
in_stream Refused = plain.Refused

-- the packet is of the stream, and its number is judged by the window
pub record IsJudgedInStream (bounds : Bounds) (taken : Numbers) (low : ℕ) (verdict : RestartingVerdict) : Type 0 where
  pub number : ℕ
  pub of_stream : IsOfStream bounds taken low number
  pub judged : IsJudgedOf bounds.size taken number (in_stream verdict)

-- the packet is outside of the stream: it begins an epoch, or is refused
pub record IsJudgedOutside (bounds : Bounds) (count : ℕ) (taken : Numbers) (Lead : ℕ → Type 0) (low : ℕ) (verdict : RestartingVerdict) : Type 0 where
  pub outside : IsOutside bounds taken low
  pub judged : BeginsOrRefused bounds count taken Lead low verdict

-- the verdict on a packet of a receiver that starts at this rollover count, where these numbers are taken in the epoch so far
abbrev pub IsRestartingVerdict : Bounds → ℕ → Numbers → (ℕ → Type 0) → ℕ → RestartingVerdict → Type 0
IsRestartingVerdict bounds count taken Lead low verdict = IsJudgedInStream bounds taken low verdict ⊎ IsJudgedOutside bounds count taken Lead low verdict

-- the packet is of the stream, with a number that is still to be judged by the window, or it is outside of it and judged
abbrev pub IsPlaced : Bounds → ℕ → Numbers → (ℕ → Type 0) → ℕ → RestartingVerdict → Type 0
IsPlaced bounds count taken Lead low verdict =
    ((number : ℕ) × (verdict ≡ Taken number) × IsOfStream bounds taken low number) ⊎ IsJudgedOutside bounds count taken Lead low verdict

-- the verdict on a packet so placed, once a window of this size is asked
abbrev pub IsSettled : ℕ → Numbers → RestartingVerdict → RestartingVerdict → Type 0
IsSettled size taken (Taken number) verdict =
    ((verdict ≡ Taken number) × IsFreshOf size taken number) ⊎ ((verdict ≡ Refused) × (IsFreshOf size taken number → ⊥))
IsSettled size taken (Restarted number) verdict = verdict ≡ Restarted number
IsSettled size taken Refused verdict = verdict ≡ Refused

-- ---- a whole run

-- a packet that came: the 16 bits of its number, and the verdict on it
pub record Arrival : Type 0 where
  pub low : ℕ
  pub verdict : RestartingVerdict

-- what is taken in an epoch after a verdict: a restart begins a new one
abbrev pub epoch_after : Numbers → RestartingVerdict → Numbers
epoch_after taken (Taken number) = including taken number
epoch_after taken (Restarted number) = only number
epoch_after taken Refused = taken

-- the numbers taken in the epoch that the latest of these packets belongs to; the latest comes first
abbrev pub taken_in : List Arrival → Numbers
taken_in [] = λ n. false
taken_in (arrival ∷ before) = epoch_after (taken_in before) arrival.verdict

-- the latest k packets lead up to this one: each was outside of the stream and was refused, and its number is followed by that of the next packet received, as A.1 says in words; its code also lets packets of the stream come between
abbrev pub LeadUp : Bounds → List Arrival → ℕ → ℕ → Type 0
LeadUp bounds before low zero = Unit {0}
LeadUp bounds [] low (suc k) = ⊥
LeadUp bounds (arrival ∷ before) low (suc k) =
    (arrival.verdict ≡ Refused) × IsOutside bounds (taken_in before) arrival.low × (low ≡ (arrival.low + 1) % 65536) × LeadUp bounds before arrival.low k

-- the packet is judged by those that came before it; the receiver starts at the rollover count 1
abbrev pub IsNext : Bounds → List Arrival → Arrival → Type 0
IsNext bounds before arrival = IsRestartingVerdict bounds 1 (taken_in before) (LeadUp bounds before arrival.low) arrival.low arrival.verdict

-- each packet is judged by those that came before it
abbrev pub IsRestartingRun : Bounds → List Arrival → Type 0
IsRestartingRun bounds [] = Unit {0}
IsRestartingRun bounds (arrival ∷ before) = IsNext bounds before arrival × IsRestartingRun bounds before

-- two packets in a row: this one and the one just before it were outside of the stream, the first was refused, and the second has the number after it
abbrev pub IsPair : Bounds → List Arrival → ℕ → Type 0
IsPair bounds before low = IsOutside bounds (taken_in before) low × LeadUp bounds before low 1

-- no two of the packets are such a pair
abbrev pub HasNoPair : Bounds → List Arrival → Type 0
HasNoPair bounds [] = Unit {0}
HasNoPair bounds (arrival ∷ before) = (IsPair bounds before arrival.low → ⊥) × HasNoPair bounds before

-- the sender never starts again
abbrev pub IsOneEpoch : List Arrival → Type 0
IsOneEpoch [] = Unit {0}
IsOneEpoch (arrival ∷ before) = ((number : ℕ) → arrival.verdict ≡ Restarted number → ⊥) × IsOneEpoch before
