use Rattle.rtp_vla.proofs.AllocationReadingLemmas.{after_rates-more}
use Rattle.rtp_vla.proofs.LebLemmas.{ReadsLeb-read}
use Rattle.rtp_vla.proofs.parts.after_rates.Goals as goal

pub loop-i-preserved : goal.loop-i-preserved
loop-i-preserved c =
    after_rates-more c.args.count c.loop-i._i c.loop-i.after.now c.parse_leb_u63.result.1.now _ c.loop-i-test.true
    (c.parse_leb_u63.ensures.only _ _ (ReadsLeb-read c.loop-i.after.now)).1 c.loop-i.invariant
