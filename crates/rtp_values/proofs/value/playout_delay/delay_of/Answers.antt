use Rattle.std.proofs.Common.{◌+◌, ◌*◌, ◌/◌, ◌%◌, ◌<◌, ◌∙◌, subst, ℕ}
use Rattle.rtp_values.proofs.DelayLemmas.{hundredths_in_parts}
use Rattle.rtp_values.proofs.value.playout_delay.delay_of.Goals as goal

pub returns : goal.returns
returns c =
    let hertz = c.from-hertz.ensures ∙ c.denom.ensures.value in
    let some : 0 < c.args.time.denom = subst (λ (d : ℕ). 0 < d) c.denom.ensures.value c.denom.ensures.positive in
    (λ i. (c.numer.ensures i / hertz i % 4096 * 100 + c.numer-2.ensures i % hertz i * 100 / hertz i) % 4096)
    ∙ hundredths_in_parts c.args.time.numer c.args.time.denom some
