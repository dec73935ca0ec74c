-- What receivers hold of each source, before and after a datagram: what the functions of `receive` promise each other.
use Rattle.std.specs.Prelude.{ℕ, if◌then◌else◌, Option}
use Rattle.rtp_base.specs.Window.{Numbers}
use Rattle.rtp_receive.specs.declared.receiver.Verdict.{Verdict}
use Rattle.rtp_receive.specs.Receiver.{Holds, taken_after}
use Rattle.rtp_receive.specs.Receivers.{ReceiverStates, state_of}
use Rattle.rtp_receive.specs.Verdicts.{PacketId}
use Rattle.rtp_receive.specs.Sources.{is_from}

-- receivers that start at this rollover count hold of each source these numbers
abbrev pub HoldsEach : ReceiverStates → ℕ → (ℕ → Numbers) → Type 0
HoldsEach receivers count taken = (source : ℕ) → Holds (state_of receivers source) count (taken source)

-- what is taken of each source after a verdict on a packet id
abbrev pub taken_after_each : (ℕ → Numbers) → Option PacketId → Verdict → ℕ → Numbers
taken_after_each taken packet_id verdict source = if is_from source packet_id then taken_after (taken source) verdict else taken source
