use Rattle.rtp_c.proofs.Common.{◌≡◌, ◌&&◌, length, rules, arith, inl, inr, cases_lt, and_parts, OnTrue_from}
use Rattle.rtp_c.proofs.FewSlotsLemmas.{zeros_in, zeros_past}
use Rattle.rtp_c.proofs.kinds.StoredMap.has_low_ids_alone.Goals as goal

pub returns : goal.returns
returns c = OnTrue_from (c.are_zeros.result && c.are_zeros-2.result) _ λ yes id above.
    let numbers = c.args.self.now.kind in
    let many : length numbers ≡ 256 = search rules in
    let both = and_parts _ _ yes in
    elim (cases_lt id 32) [
      | inl low ↦ zeros_in numbers 16 16 id (omega (arith, many)) (c.are_zeros.ensures.0 both.0) above (omega (arith, low))
      | inr high ↦ zeros_past numbers 32 224 id (omega (arith, many)) (c.are_zeros-2.ensures.0 both.1) high
    ]
