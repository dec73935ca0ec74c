use Rattle.rtp_vla.proofs.Common.{drop, flat_map, shortest_of, Leaves}
use Rattle.rtp_vla.proofs.putting.put_layer_rates.Given as goal

-- what is left is put after the bytes so far
abbrev pub invariant-loop-rate : goal.invariant-loop-rate
invariant-loop-rate l = Leaves l.buf l.end (flat_map shortest_of (drop l.rate-index l.rates)) l.initial.buf l.at (flat_map shortest_of l.rates)
