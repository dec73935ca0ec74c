use Rattle.std.proofs.Common.{◌≡◌, ◌-◌, ◌+◌, ◌/◌, suc, ap, arith, length}
use Rattle.rtp_vla.proofs.LebSpellingLemmas.{shortest-leb_of, measured_more, measured_all}
use Rattle.rtp_vla.specs.Leb.{shortest_of}
use Rattle.rtp_vla.proofs.leb.long_leb_len.Goals as goal

pub loop-left-init : goal.loop-left-init
loop-left-init c =
    let value = c.args.value in
    let one = measured_more 8 1 value (length (shortest_of value) + 1) (omega (arith, c.requires.long)) c.requires.small (omega (arith, ap length (shortest-leb_of value))) in
    let two = measured_more 7 2 (value / 128) (length (shortest_of value) + 1) (omega (arith, c.requires.long)) one.1 one.0 in
    let same : value / 128 / 128 ≡ value / 16384 = omega arith in
    record { all = rw same at two.0; below = rw same at two.1; some = omega arith; few = omega arith }

pub loop-left-preserved : goal.loop-left-preserved
loop-left-preserved c =
    let l = c.loop-left in
    let room : 10 - l.len ≡ suc (9 - l.len) = omega (arith, l.invariant.few) in
    let next : 10 - (l.len + 1) ≡ 9 - l.len = omega arith in
    let more = measured_more (9 - l.len) l.len l.left _ c.loop-left-test.true (rw room at l.invariant.below) (rw room at l.invariant.all) in
    record { all = rw next more.0; below = rw next more.1; some = omega arith; few = omega (arith, more.2) }

pub returns : goal.returns
returns c =
    let l = c.loop-left in
    let room : 10 - l.len ≡ suc (9 - l.len) = omega (arith, l.invariant.few) in
    omega (arith, measured_all (9 - l.len) l.len l.left _ c.loop-left-test.false (rw room at l.invariant.all))
