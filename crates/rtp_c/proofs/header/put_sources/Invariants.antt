use Rattle.std.proofs.Common.{◌≡◌, ◌-◌, ◌++◌, ℕ, List, length, replicate}
use Rattle.rtp_c.proofs.header.put_sources.Given as goal

-- the sources that were passed are in the first slots
pub record SoFar (sources left slots : List ℕ) (count : ℕ) : Type 0 where
  pub done : List ℕ
  pub in_order : sources ≡ done ++ left
  pub count_is : count ≡ length done
  pub slots_are : slots ≡ done ++ replicate (15 - count) 0

abbrev pub invariant-loop-source : goal.invariant-loop-source
invariant-loop-source l = SoFar l.fn.sources l.source-iterator l.slots l.count
