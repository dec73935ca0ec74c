use Rattle.rtp_vla.proofs.Common.{◌≡◌, ◌≤◌, ◌*◌, take, length, true, nat_lt, list_all, flat_map, shortest_of}
use Rattle.rtp_vla.proofs.measuring.rates_len.Given as goal

-- the rates so far fit, and these are their bytes
abbrev pub invariant-loop-rate : goal.invariant-loop-rate
invariant-loop-rate l = record {
  fits : list_all (λ rate. nat_lt rate 9223372036854775808) (take l.rate-index l.rates) ≡ true;
  len : l.len ≡ length (flat_map shortest_of (take l.rate-index l.rates));
  few : l.len ≤ 9 * l.rate-index;
}
