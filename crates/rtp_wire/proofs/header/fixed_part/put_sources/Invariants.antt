use Rattle.rtp_wire.proofs.Common.{◌≡◌, ℕ, List, ◌+◌, ◌*◌, take, flat_map, w32, to_be_bytes, overwritten}
use Rattle.rtp_wire.proofs.header.fixed_part.put_sources.Given as goal

-- the sources so far are in place
pub record SoFar (old new : List ℕ) (at end : ℕ) (sources : List ℕ) (done : ℕ) : Type 0 where
  pub written : new ≡ overwritten old at (flat_map (to_be_bytes w32) (take done sources))
  pub ends : end ≡ at + 4 * done

abbrev pub invariant-loop-source : goal.invariant-loop-source
invariant-loop-source l = SoFar l.initial.buf l.buf l.at l.end l.sources l.source-index
