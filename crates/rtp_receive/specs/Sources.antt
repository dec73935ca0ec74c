-- Runs of packets of many sources, each with a replay window of its own (RFC 3550, 3; RFC 3711, 3.2.3 and 3.3.2).
use Rattle.std.specs.Prelude.{ℕ, List, [], ◌∷◌, Bool, false, if◌then◌else◌, ◌==◌, Option, Some, None}
use Rattle.rtp_base.specs.Window.{Numbers, window_size}
use Rattle.rtp_receive.specs.declared.receiver.Verdict.{Verdict}
use Rattle.rtp_receive.specs.Verdicts.{PacketId, taken_by, IsRunBy}

-- whether a packet id is that of a packet of this source; an unreadable datagram is of no source
abbrev pub is_from : ℕ → Option PacketId → Bool
is_from source None = false
is_from source (Some packet_id) = source == packet_id.source

-- of a list with an element for each packet id, the elements at the places of one source, in their order
abbrev pub at_source : {A : Type 0} → ℕ → List (Option PacketId) → List A → List A
at_source source [] xs = []
at_source source (packet_id ∷ packet_ids) [] = []
at_source source (packet_id ∷ packet_ids) (x ∷ xs) = if is_from source packet_id then x ∷ at_source source packet_ids xs else at_source source packet_ids xs

-- the numbers that some verdicts take at the places of a source
abbrev pub taken_of : List (Option PacketId) → List Verdict → ℕ → Numbers
taken_of packet_ids verdicts source = taken_by (at_source source packet_ids verdicts)

-- of the numbers of each source, those of the source of a packet id; none where the datagram is unreadable
abbrev pub numbers_beside : (ℕ → Numbers) → Option PacketId → Numbers
numbers_beside taken None = taken_by []
numbers_beside taken (Some packet_id) = taken packet_id.source

-- a verdict for each packet id, after the numbers that the verdicts before it take of the same source, each of which starts at the rollover count 0
abbrev pub AreRuns : List (Option PacketId) → List Verdict → Type 0
AreRuns packet_ids verdicts = IsRunBy window_size 0 (λ packet_id earlier verdicts_before. numbers_beside (taken_of earlier verdicts_before) packet_id) packet_ids verdicts
