-- One epoch of a stream whose sender may start again: its first packet is taken as the first one of a stream, and from there on the packets of the stream are judged as those of a sender that never starts again (RFC 3550, appendix A.1).
use Rattle.std.specs.Prelude.{◌≡◌, ◌≢◌, ℕ, ◌<◌, false, ◌||◌, IsTrue, List, [], ◌∷◌, ◌++◌, map, Option, Some}
use Rattle.rtp_base.specs.Window.{Numbers}
use Rattle.rtp_receive.specs.declared.receiver.Verdict.{Verdict}
use Rattle.rtp_receive.specs.declared.receiver.Verdict.TheVariants as plain
use Rattle.rtp_receive.specs.declared.restarting_verdict.RestartingVerdict.{RestartingVerdict}
use Rattle.rtp_receive.specs.declared.restarting_verdict.RestartingVerdict.TheVariants.{Taken, Restarted, Refused}
use Rattle.rtp_receive.specs.Verdicts.{PacketId, IsRunOf, taken_by}
use Rattle.rtp_receive.specs.Restarting.{Bounds, IsOfStream, IsOutside, Arrival, taken_in}

-- of the packets that came, the latest first, these are the present epoch's, the earliest first
pub data AreOfEpoch (bounds : Bounds) : List Arrival → List Arrival → Type 0 where
  -- none came
  none : AreOfEpoch bounds [] []
  -- a packet outside of the stream that is taken begins an epoch
  begins : (before : List Arrival) (arrival : Arrival) → IsOutside bounds (taken_in before) arrival.low → arrival.verdict ≢ Refused
      → AreOfEpoch bounds (arrival ∷ before) (arrival ∷ [])
  -- a packet of the stream is one more
  goes_on : (before packets : List Arrival) (arrival : Arrival) (number : ℕ) → AreOfEpoch bounds before packets → IsOfStream bounds (taken_in before) arrival.low number
      → AreOfEpoch bounds (arrival ∷ before) (packets ++ arrival ∷ [])
  -- a packet outside of the stream that is refused isn't of the epoch
  passed_by : (before packets : List Arrival) (arrival : Arrival) → AreOfEpoch bounds before packets → IsOutside bounds (taken_in before) arrival.low → arrival.verdict ≡ Refused
      → AreOfEpoch bounds (arrival ∷ before) packets

-- the packet id of a packet of this source
abbrev pub packet_id_in : ℕ → Arrival → Option PacketId
packet_id_in source arrival = Some (record { source = source; low = arrival.low })

-- the verdict, as that of a receiver for a sender that never starts again
abbrev pub verdict_in_epoch : RestartingVerdict → Verdict
verdict_in_epoch (Taken number) = plain.Taken number
verdict_in_epoch (Restarted number) = plain.Taken number
verdict_in_epoch Refused = plain.Refused

abbrev pub verdicts_in_epoch : List Arrival → List Verdict
verdicts_in_epoch packets = map (λ arrival. verdict_in_epoch arrival.verdict) packets

-- the verdicts on the packets of the present epoch are a run of a receiver with a window of this size, which starts at the rollover count of the first one's number; what the run takes is what is taken in the epoch
pub record IsRunInEpoch (bounds : Bounds) (arrivals : List Arrival) : Type 0 where
  pub packets : List Arrival
  pub of_epoch : AreOfEpoch bounds arrivals packets
  pub count : ℕ
  pub run : (source : ℕ) → IsRunOf bounds.size count (map (packet_id_in source) packets) (verdicts_in_epoch packets)
  pub taken : (number : ℕ) → taken_by (verdicts_in_epoch packets) number ≡ taken_in arrivals number

-- ---- epoch after epoch

-- the numbers taken in the epochs before the present one, after a verdict
abbrev pub earlier_after : Numbers → Numbers → RestartingVerdict → Numbers
earlier_after earlier taken (Taken number) = earlier
earlier_after earlier taken (Restarted number) = λ n. earlier n || taken n
earlier_after earlier taken Refused = earlier

-- the numbers taken in the epochs before the one that the latest of these packets belongs to
abbrev pub taken_earlier : List Arrival → Numbers
taken_earlier [] = λ n. false
taken_earlier (arrival ∷ before) = earlier_after (taken_earlier before) (taken_in before) arrival.verdict

-- each number taken in the present epoch is above all that were taken in the epochs before it
abbrev pub AreRising : List Arrival → Type 0
AreRising arrivals = (earlier number : ℕ) → IsTrue (taken_earlier arrivals earlier) → IsTrue (taken_in arrivals number) → earlier < number
