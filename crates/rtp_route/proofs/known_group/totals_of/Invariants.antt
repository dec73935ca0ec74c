use Rattle.rtp_route.proofs.KnownGroupLemmas.{IsFound}
use Rattle.rtp_route.proofs.known_group.totals_of.Given as goal

-- so much is found of the elements before the index
abbrev pub invariant-loop-index : goal.invariant-loop-index
invariant-loop-index l = IsFound l.group.element_ids l.group.data_lens l.group.numbers l.index l.total l.one_byte
