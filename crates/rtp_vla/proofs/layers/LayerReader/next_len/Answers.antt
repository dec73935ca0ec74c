use Rattle.rtp_vla.proofs.Common.{◌≤◌, Bool, true, arith, rules, ap, length, next_len}
use Rattle.rtp_vla.proofs.AllocationReadingLemmas.{length-layers_read}
use Rattle.rtp_vla.proofs.AllocationParts.{next_len-first}
use Rattle.rtp_vla.proofs.layers.LayerReader.next_len.Goals as goal

pub returns-then-is_active : goal.returns-then-is_active
returns-then-is_active c =
    let r = c.self.inside in
    let there : 1 ≤ length c.args.self.now = search rules in
    let some : 1 ≤ length r.counts = omega (arith, there, ap length c.self.view_is, length-layers_read r.counts r.rates.now r.resolutions.now) in
    let len = next_len-first r.counts r.rates.now r.resolutions.now c.first.result some c.first.ensures.first in
    omega (arith, c.from.ensures, len, ap (next_len true) c.self.view_is, ap (λ (b : Bool). next_len b c.args.self.now) c.if-is_active.true)
