-- What a receiver says of each packet of a run (RFC 3711, 3.3.1 and 3.3.2).
use Rattle.std.specs.Prelude.{◌≡◌, ℕ, ◌<◌, List, [], ◌∷◌, length, take, false, ◌||◌, ◌==◌, Option, Some, None, slice_index_or}
use Rattle.rtp_base.specs.Window.{Numbers, window_size}
use Rattle.rtp_receive.specs.declared.receiver.Verdict.{Verdict}
use Rattle.rtp_receive.specs.declared.receiver.Verdict.TheVariants.{Unreadable, Taken, Refused}
use Rattle.rtp_receive.specs.Receiver.{IsNumberOf, IsJudgedOf}

-- what a receiver knows a packet by: its source, and the 16 bits of its number
pub record PacketId : Type 0 where
  pub source : ℕ
  pub low : ℕ

-- the numbers that some verdicts take
abbrev pub taken_by : List Verdict → Numbers
taken_by [] number = false
taken_by (Taken t ∷ verdicts) number = (number == t) || taken_by verdicts number
taken_by (Refused ∷ verdicts) number = taken_by verdicts number
taken_by (Unreadable ∷ verdicts) number = taken_by verdicts number

-- the verdict on a packet id of a receiver with a window of this size that starts at this rollover count, where these numbers are taken before it
abbrev pub IsVerdictOf : ℕ → ℕ → Numbers → Option PacketId → Verdict → Type 0
IsVerdictOf size count taken None verdict = verdict ≡ Unreadable
IsVerdictOf size count taken (Some packet_id) verdict = (number : ℕ) × IsNumberOf count taken packet_id.low number × IsJudgedOf size taken number verdict

-- a verdict for each packet id; `before` is the set of the numbers that count as taken before it, by the packet ids and the verdicts before it
pub record IsRunBy (size count : ℕ) (before : Option PacketId → List (Option PacketId) → List Verdict → Numbers) (packet_ids : List (Option PacketId)) (verdicts : List Verdict) : Type 0 where
  pub as_many : length verdicts ≡ length packet_ids
  pub each : (i : ℕ) → i < length packet_ids → IsVerdictOf size count (before (slice_index_or packet_ids i None) (take i packet_ids) (take i verdicts))
      (slice_index_or packet_ids i None) (slice_index_or verdicts i Unreadable)

-- a verdict for each packet id of one stream, after the numbers that the verdicts before it take
abbrev pub IsRunOf : ℕ → ℕ → List (Option PacketId) → List Verdict → Type 0
IsRunOf size count packet_ids verdicts = IsRunBy size count (λ packet_id earlier taken. taken_by taken) packet_ids verdicts

-- the same of `Receiver`, whose window has 128 numbers
abbrev pub IsVerdict : ℕ → Numbers → Option PacketId → Verdict → Type 0
IsVerdict = IsVerdictOf window_size

abbrev pub IsRun : ℕ → List (Option PacketId) → List Verdict → Type 0
IsRun = IsRunOf window_size

-- no number is taken twice
abbrev pub TakesOnce : List Verdict → Type 0
TakesOnce verdicts = (i j number : ℕ) → i < j → j < length verdicts
    → slice_index_or verdicts i Unreadable ≡ Taken number → slice_index_or verdicts j Unreadable ≡ Taken number → ⊥
