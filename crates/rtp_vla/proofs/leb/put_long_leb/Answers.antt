use Rattle.std.proofs.Common.{◌≡◌, ◌-◌, ◌+◌, suc, arith}
use Rattle.rtp_vla.proofs.LeavingLemmas.{Leaves-start}
use Rattle.rtp_vla.proofs.LebSpellingLemmas.{shortest-leb_of, put_more, put_last, put_within}
use Rattle.rtp_vla.proofs.leb.put_long_leb.Goals as goal
use Rattle.rtp_vla.proofs.leb.put_long_leb.Goals.{In-loop-left, After-loop-left}

pub loop-left-init : goal.loop-left-init
loop-left-init c =
    let room : 9 - (c.args.at - c.args.at) ≡ 9 = omega arith in
    record {
      leaves = rw (room, ← shortest-leb_of c.args.value) (Leaves-start _ _ _ c.requires.room);
      below = rw room c.requires.small;
      after = omega arith;
      few = omega arith;
    }

pub bounds-buf-end : goal.bounds-buf-end
bounds-buf-end c =
    let l = c.loop-left in
    let room : 9 - (l.end - c.args.at) ≡ suc (8 - (l.end - c.args.at)) = omega (arith, l.invariant.few, l.invariant.after) in
    put_within _ _ _ _ _ _ _ (rw room at l.invariant.leaves)

pub loop-left-preserved : goal.loop-left-preserved
loop-left-preserved c =
    let l = c.loop-left in
    let room : 9 - (l.end - c.args.at) ≡ suc (8 - (l.end - c.args.at)) = omega (arith, l.invariant.few, l.invariant.after) in
    let next : 9 - (l.end + 1 - c.args.at) ≡ 8 - (l.end - c.args.at) = omega (arith, l.invariant.after) in
    let more = put_more (8 - (l.end - c.args.at)) l.buf _ _ l.end c.args.at l.left c.loop-left-test.true (rw room at l.invariant.below) (rw room at l.invariant.leaves) in
    record { leaves = rw next more.0; below = rw next more.1; after = omega (arith, l.invariant.after); few = omega (arith, more.2, l.invariant.after) }

pub bounds-buf-end-2 : goal.bounds-buf-end-2
bounds-buf-end-2 c =
    let l = c.loop-left in
    let room : 9 - (l.end - c.args.at) ≡ suc (8 - (l.end - c.args.at)) = omega (arith, l.invariant.few, l.invariant.after) in
    put_within _ _ _ _ _ _ _ (rw room at l.invariant.leaves)

pub returns-clause-written : goal.returns-clause-written
returns-clause-written c =
    let l = c.loop-left in
    let room : 9 - (l.end - c.args.at) ≡ suc (8 - (l.end - c.args.at)) = omega (arith, l.invariant.few, l.invariant.after) in
    (put_last (8 - (l.end - c.args.at)) _ _ _ _ _ _ c.loop-left-test.false (rw room at l.invariant.leaves)).0

pub returns-clause-end : goal.returns-clause-end
returns-clause-end c =
    let l = c.loop-left in
    let room : 9 - (l.end - c.args.at) ≡ suc (8 - (l.end - c.args.at)) = omega (arith, l.invariant.few, l.invariant.after) in
    (put_last (8 - (l.end - c.args.at)) _ _ _ _ _ _ c.loop-left-test.false (rw room at l.invariant.leaves)).1
