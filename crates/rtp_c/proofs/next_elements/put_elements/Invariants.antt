use Rattle.rtp_c.proofs.Common.{◌≤◌, ◌-◌, length}
use Rattle.rtp_c.proofs.ElementLemmas.{AreNextTo}
use Rattle.rtp_c.proofs.next_elements.put_elements.Given as goal

-- the elements before the count are told, up to where reading goes on
abbrev pub invariant-loop-count : goal.invariant-loop-count
invariant-loop-count l =
    AreNextTo l.form l.body l.at l.initial.elements l.elements l.count l.from × (l.from ≤ length l.body) × (l.count ≤ length l.elements)

abbrev pub decreases-loop-count : goal.decreases-loop-count
decreases-loop-count l = length l.elements - l.count
