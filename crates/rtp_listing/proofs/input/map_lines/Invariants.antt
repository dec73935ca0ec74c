use Rattle.rtp_listing.proofs.Common.{length, IsFront}
use Rattle.rtp_listing.proofs.input.map_lines.Given as goal

-- the map lines so far are in the map
abbrev pub invariant-loop-alloc : goal.invariant-loop-alloc
invariant-loop-alloc l = IsFront l.text l.exts l.count l.rest

abbrev pub decreases-loop-alloc : goal.decreases-loop-alloc
decreases-loop-alloc l = length l.rest
