use Rattle.rtp_listing.proofs.Common.{ℕ, ◌<◌, ◌≤◌, ◌-◌, ◌≢◌, length, get_or}
use Rattle.rtp_listing.proofs.line.line_len.Given as goal

-- no line feed is at the front so far
abbrev pub invariant-loop-front : goal.invariant-loop-front
invariant-loop-front l = record { within : l.front ≤ length l.text; none : (k : ℕ) → k < l.front → get_or l.text k 0 ≢ 10 }

abbrev pub decreases-loop-front : goal.decreases-loop-front
decreases-loop-front l = length l.text - l.front
