use Rattle.rtp_vla.proofs.Common.{◌*◌, ◌/◌, ◌-◌, ◌^◌, arith, ap, rate_count}
use Rattle.rtp_vla.specs.AllocationReading.{counts_in}
use Rattle.rtp_vla.proofs.CountsLemmas.{bits_weigh, counts_in-none, rate_count-bits}
use Rattle.rtp_vla.proofs.counts.Counts.rate_count.Goals as goal

pub returns-then-self-eq0 : goal.returns-then-self-eq0
returns-then-self-eq0 c =
    let bits = c.self.inside.bits in
    omega (arith, ap rate_count c.self.view_is, ap (λ left. rate_count (counts_in left bits)) c.if-self-eq0.true, ap rate_count (counts_in-none bits))

pub returns : goal.returns
returns c = omega (arith, ap (λ bits. bits_weigh (bits / 2 ^ (32 - 2 * c.self.inside.left))) c.from.ensures, rate_count-bits c.self.inside.left c.self.inside.bits (omega (arith, c.self.invariant)) (omega (arith, c.self.ranges)), ap rate_count c.self.view_is)
