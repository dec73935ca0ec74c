-- The numbers that a sender gave its packets, and what a receiver says of these packets (RFC 3711, 3.3.1).
use Rattle.std.specs.Prelude.{◌≡◌, ℕ, ◌+◌, ◌*◌, ◌%◌, ◌^◌, ◌<◌, ◌≤◌, List, [], ◌∷◌, length, take, false, ◌||◌, ◌==◌, Option, Some, None, IfSome, slice_index_or}
use Rattle.rtp_base.specs.Window.{Numbers}
use Rattle.rtp_receive.specs.declared.receiver.Verdict.{Verdict}
use Rattle.rtp_receive.specs.declared.receiver.Verdict.TheVariants.{Unreadable}
use Rattle.rtp_receive.specs.Receiver.{IsHighest, IsJudged}
use Rattle.rtp_receive.specs.Verdicts.{PacketId}

-- a number is less than 32,768, half of the 16 bits' number space, away from the highest before it; the first has this rollover count
abbrev pub IsInReach : ℕ → Option ℕ → ℕ → Type 0
IsInReach count None number = (65536 * count ≤ number) × (number < 65536 * count + 65536)
IsInReach count (Some highest) number = (highest < number + 32768) × (number < highest + 32768)

-- the number of a packet that shows these 16 bits of it, where the packets before it have these numbers
pub record IsTrueNumber (count : ℕ) (before : Numbers) (low number : ℕ) : Type 0 where
  pub fits : number < 2 ^ 64
  pub ends : number % 65536 ≡ low
  pub highest : Option ℕ
  pub is_highest : IsHighest before highest
  pub within : IsInReach count highest number

-- the numbers at the readable places
abbrev pub numbers_of : List (Option PacketId) → List ℕ → Numbers
numbers_of [] numbers n = false
numbers_of (packet_id ∷ packet_ids) [] n = false
numbers_of (None ∷ packet_ids) (number ∷ numbers) n = numbers_of packet_ids numbers n
numbers_of (Some packet_id ∷ packet_ids) (number ∷ numbers) n = (n == number) || numbers_of packet_ids numbers n

-- a number for each place: at each readable one the number of its packet, by the numbers at the readable places before it
pub record AreTrueNumbers (count : ℕ) (packet_ids : List (Option PacketId)) (numbers : List ℕ) : Type 0 where
  pub as_many : length numbers ≡ length packet_ids
  pub each : (i : ℕ) → i < length packet_ids → IfSome (slice_index_or packet_ids i None) (λ packet_id.
      IsTrueNumber count (numbers_of (take i packet_ids) (take i numbers)) packet_id.low (slice_index_or numbers i 0))

-- the verdict on a packet of this number: taken with it exactly where no packet before it has the number, and the number isn't 128 or more below the highest before it
abbrev pub IsTrueVerdict : Numbers → Option PacketId → ℕ → Verdict → Type 0
IsTrueVerdict before None number verdict = verdict ≡ Unreadable
IsTrueVerdict before (Some packet_id) number verdict = IsJudged before number verdict

-- a verdict for each place, by the numbers alone
pub record AreTrueVerdicts (packet_ids : List (Option PacketId)) (numbers : List ℕ) (verdicts : List Verdict) : Type 0 where
  pub as_many : length verdicts ≡ length packet_ids
  pub each : (i : ℕ) → i < length packet_ids → IsTrueVerdict (numbers_of (take i packet_ids) (take i numbers))
      (slice_index_or packet_ids i None) (slice_index_or numbers i 0) (slice_index_or verdicts i Unreadable)
