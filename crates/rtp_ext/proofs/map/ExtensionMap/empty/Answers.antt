use Rattle.rtp_ext.proofs.Common.{None, rules, arith, ◌∙◌, IsEmpty}
use Rattle.rtp_ext.proofs.MapLemmas.{IsEmpty-from_each}
use Rattle.rtp_ext.proofs.KindsByIdLemmas.{known_slots-empty}
use Rattle.rtp_ext.proofs.WalkLemmas.{IsLastId-none}
use Rattle.rtp_ext.proofs.map.ExtensionMap.empty.Goals as goal

empty : (c : goal.After-empty) → IsEmpty c.from_fn.result
empty c = IsEmpty-from_each c.from_fn.result
    (λ k lt. let h = c.from_fn.ensures.items.at k None (omega (arith, c.from_fn.ensures.items.long)) in search (rules, h, h.2))

pub invariant_of-result : goal.invariant_of-result
invariant_of-result c = (
  c.from_fn.ensures.items.long,
  IsLastId-none c.from_fn.result (empty c),
  c.empty.ensures ∙ known_slots-empty 255 c.from_fn.result c.from_fn.ensures.items.long (empty c),
)

pub returns : goal.returns
returns c = empty c
