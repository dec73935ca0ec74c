-- Packets of a source whose sender may start again, as they came.
use Rattle.std.specs.Prelude.{ℕ, List, [], ◌∷◌}
use Rattle.rtp_receive.specs.declared.restarting_verdict.RestartingVerdict.{RestartingVerdict}
use Rattle.rtp_receive.specs.Restarting.{Bounds, Arrival}

-- RFC 3550's MAX_DROPOUT, a window of 1,024 numbers, and a source that is valid with its first packet
abbrev pub usual_bounds : Bounds
usual_bounds = record { max_dropout = 3000; max_misorder = 1024; size = 1024; min_sequential = 1 }

-- these packets and then those of the sequence numbers, with the verdicts on them; the latest comes first
abbrev pub arrivals_after : List Arrival → List ℕ → List RestartingVerdict → List Arrival
arrivals_after before [] verdicts = before
arrivals_after before (low ∷ lows) [] = before
arrivals_after before (low ∷ lows) (verdict ∷ verdicts) = arrivals_after (record { low = low; verdict = verdict } ∷ before) lows verdicts

-- the packets of the sequence numbers
abbrev pub arrivals_of : List ℕ → List RestartingVerdict → List Arrival
arrivals_of lows verdicts = arrivals_after [] lows verdicts
