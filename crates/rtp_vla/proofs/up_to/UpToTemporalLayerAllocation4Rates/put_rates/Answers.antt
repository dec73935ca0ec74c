use Rattle.rtp_vla.proofs.Common.{◌<◌, ◌∙◌, ◌++◌, ◌-◌, ◌+◌, ap, arith, take, take_more_set, rates_of, List, ℕ}
use Rattle.rtp_vla.proofs.AllocationReadingLemmas.{after_rates-more, rates_of-more}
use Rattle.rtp_vla.proofs.LebLemmas.{ReadsLeb-read}
use Rattle.rtp_vla.proofs.UpToLemmas.{pushed_padded}
use Rattle.rtp_vla.proofs.up_to.UpToTemporalLayerAllocation4Rates.put_rates.Goals as goal

pub loop-i-preserved : goal.loop-i-preserved
loop-i-preserved c =
    let read = c.parse_leb_u63-cumulative_kbps.ensures.only _ _ (ReadsLeb-read c.loop-i.after.now) in
    let rate = c.parse_leb_u63-cumulative_kbps.result.0 in
    let next = c.parse_leb_u63-cumulative_kbps.result.1.now in
    let items = c.loop-i.self-inside.items in
    let padded = c.loop-i.invariant.places in
    let within : c.loop-i.i < 4 = omega (arith, c.loop-i-test.true, c.requires.room) in
    record {
      rates = ap (λ (rates : List ℕ). rates ++ rates_of (c.args.count - (c.loop-i.i + 1)) next) (take_more_set items c.loop-i.i rate (omega (arith, padded.0, within)))
          ∙ rates_of-more c.args.count c.loop-i.i rate (take c.loop-i.i items) c.loop-i.after.now next _ c.loop-i-test.true read.0 read.1 c.loop-i.invariant.rates;
      after = after_rates-more c.args.count c.loop-i.i c.loop-i.after.now next _ c.loop-i-test.true read.1 c.loop-i.invariant.after;
      places = pushed_padded 4 0 items c.loop-i.i rate padded within;
    }
