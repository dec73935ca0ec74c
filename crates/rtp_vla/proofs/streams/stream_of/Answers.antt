use Rattle.std.proofs.Common.{arith, refl}
use Rattle.rtp_vla.proofs.AllocationReadingLemmas.{active_next, length-marks_of, length-marks_of-more, deals_more, deals_all}
use Rattle.rtp_vla.proofs.streams.stream_of.Goals as goal

pub loop-marks-init : goal.loop-marks-init
loop-marks-init c = record {
  deals = rw c.in_ok-spatial_layers.ensures.items (record { stream = refl; others = refl; enough = c.requires.enough });
  fits = c.requires.fits;
  room = omega (arith, c.in_ok-spatial_layers.ensures.len, c.in_ok-spatial_layers.ensures.exact, length-marks_of c.args.mask c.requires.fits);
}

pub next_len-requires : goal.next_len-requires
next_len-requires c = active_next c.loop-marks.marks _ c.loop-marks.invariant.fits c.loop-marks-test.true c.loop-marks.invariant.deals.enough

pub next-resolution_and_framerate-requires-clause-some : goal.next-resolution_and_framerate-requires-clause-some
next-resolution_and_framerate-requires-clause-some c = active_next c.loop-marks.marks _ c.loop-marks.invariant.fits c.loop-marks-test.true c.loop-marks.invariant.deals.enough

pub push_reserved-requires : goal.push_reserved-requires
push_reserved-requires c = omega (arith, c.loop-marks.invariant.room, length-marks_of-more c.loop-marks.marks c.loop-marks.invariant.fits c.loop-marks-test.true)

pub loop-marks-preserved : goal.loop-marks-preserved
loop-marks-preserved c = record {
  deals = rw c.push_reserved.ensures.items (deals_more c.loop-marks.marks _ _ _ _ _ _ c.loop-marks.invariant.fits c.loop-marks-test.true c.next-resolution_and_framerate.ensures c.loop-marks.invariant.deals);
  fits = omega (arith, c.loop-marks.invariant.fits);
  room = omega (arith, c.loop-marks.invariant.room, c.push_reserved.ensures.len, c.push_reserved.ensures.capacity, length-marks_of-more c.loop-marks.marks c.loop-marks.invariant.fits c.loop-marks-test.true);
}

pub returns-clause-dealt : goal.returns-clause-dealt
returns-clause-dealt c = (deals_all c.loop-marks.marks _ _ _ _ (omega (arith, c.loop-marks-test.false)) c.loop-marks.invariant.deals).0

pub returns-clause-left : goal.returns-clause-left
returns-clause-left c = (deals_all c.loop-marks.marks _ _ _ _ (omega (arith, c.loop-marks-test.false)) c.loop-marks.invariant.deals).1
