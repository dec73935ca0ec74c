use Rattle.rtp_vla.proofs.Common.{◌≡◌, ◌<◌, ◌∙◌, ap, length, arith, get_or, ltb, ℕ, and_from, lt-ltb, get_or_read, list_all_more, shortest_of}
use Rattle.rtp_vla.proofs.LebSpellingLemmas.{length-shortest_of}
use Rattle.rtp_vla.proofs.AllocationWritingLemmas.{length-flat_map-more}
use Rattle.rtp_vla.proofs.measuring.rates_len.Goals as goal

pub overflow_add-len : goal.overflow_add-len
overflow_add-len c = omega (arith, c.in-Some.ensures.fits.1, (length-shortest_of c.rate.inside.cumulative_kbps c.in-Some.ensures.fits.0).1)

pub loop-rate-preserved : goal.loop-rate-preserved
loop-rate-preserved c =
    let rates = c.args.rates.now in
    let i = c.loop-rate.rate-index in
    let is : c.rate.inside.cumulative_kbps ≡ get_or rates i 0 = c.rate.view_is ∙ get_or_read rates i c.rate-item.result c.loop-rate-test.true c.rate-item.is 0 in
    let small : get_or rates i 0 < 9223372036854775808 = omega (arith, is, c.in-Some.ensures.fits.0) in
    record {
      fits = list_all_more (λ rate. ltb rate 9223372036854775808) rates i 0 c.loop-rate-test.true ∙ and_from _ _ c.loop-rate.invariant.fits (lt-ltb _ _ small);
      len = omega (arith, c.loop-rate.invariant.len, c.in-Some.ensures.fits.1, ap (λ (r : ℕ). length (shortest_of r)) is, length-flat_map-more shortest_of rates i c.loop-rate-test.true);
      few = omega (arith, c.in-Some.ensures.fits.1, (length-shortest_of c.rate.inside.cumulative_kbps c.in-Some.ensures.fits.0).1);
    }
