use Rattle.rtp_vla.proofs.Common.{arith}
use Rattle.rtp_vla.proofs.AllocationReadingLemmas.{after_rates-more, rates_of-more}
use Rattle.rtp_vla.proofs.LebLemmas.{ReadsLeb-read}
use Rattle.rtp_vla.proofs.parts.VecTemporalLayerAllocationRates.put_rates.Goals as goal

pub loop-i-preserved : goal.loop-i-preserved
loop-i-preserved c =
    let read = c.parse_leb_u63-cumulative_kbps.ensures.only _ _ (ReadsLeb-read c.loop-i.after.now) in
    let rate = c.parse_leb_u63-cumulative_kbps.result.0 in
    let next = c.parse_leb_u63-cumulative_kbps.result.1.now in
    record {
      rates = rw c.push_reserved.ensures.items (rates_of-more c.args.count c.loop-i._i rate c.loop-i.self.items c.loop-i.after.now next _ c.loop-i-test.true read.0 read.1 c.loop-i.invariant.rates);
      after = after_rates-more c.args.count c.loop-i._i c.loop-i.after.now next _ c.loop-i-test.true read.1 c.loop-i.invariant.after;
      room = omega (arith, c.push_reserved.ensures.len, c.push_reserved.ensures.capacity, c.loop-i.invariant.room, c.loop-i-test.true);
    }
