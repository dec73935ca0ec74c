use Rattle.rtp_vla.proofs.Common.{◌≡◌, length, sym, arith, nil_from_length, overwritten-nil}
use Rattle.rtp_vla.proofs.AllocationWritingLemmas.{halves_two, halves_three, halves_four, length-halves_of}
use Rattle.rtp_vla.proofs.writing.put_halves.Goals as goal

pub put-requires-in-len3 : goal.put-requires-in-len3
put-requires-in-len3 c = omega (arith, c.requires.room, length-halves_of 0 c.args.masks.now)

pub put-requires-in-len4-up : goal.put-requires-in-len4-up
put-requires-in-len4-up c = omega (arith, c.requires.room, length-halves_of 0 c.args.masks.now)

pub returns-in-empty-clause-written : goal.returns-in-empty-clause-written
returns-in-empty-clause-written c =
    let none : length c.args.masks.now ≡ 0 = omega arith in
    rw (nil_from_length c.args.masks.now none) (sym (overwritten-nil c.args.buf.now c.args.at))

pub returns-in-len2-clause-written : goal.returns-in-len2-clause-written
returns-in-len2-clause-written c =
    let len : length c.args.masks.now ≡ 2 = omega arith in
    rw (halves_two c.args.masks.now len) c.put-in-len2.ensures.written

pub returns-in-len2-clause-end : goal.returns-in-len2-clause-end
returns-in-len2-clause-end c =
    let len : length c.args.masks.now ≡ 2 = omega arith in
    rw (halves_two c.args.masks.now len) c.put-in-len2.ensures.end

pub returns-in-len3-clause-written : goal.returns-in-len3-clause-written
returns-in-len3-clause-written c =
    let len : length c.args.masks.now ≡ 3 = omega arith in
    rw (halves_three c.args.masks.now len) c.put-in-len3.ensures.written

pub returns-in-len3-clause-end : goal.returns-in-len3-clause-end
returns-in-len3-clause-end c =
    let len : length c.args.masks.now ≡ 3 = omega arith in
    rw (halves_three c.args.masks.now len) c.put-in-len3.ensures.end

pub returns-in-len4-up-clause-written : goal.returns-in-len4-up-clause-written
returns-in-len4-up-clause-written c =
    let len : length c.args.masks.now ≡ 4 = omega arith in
    rw (halves_four c.args.masks.now len) c.put-in-len4-up.ensures.written

pub returns-in-len4-up-clause-end : goal.returns-in-len4-up-clause-end
returns-in-len4-up-clause-end c =
    let len : length c.args.masks.now ≡ 4 = omega arith in
    rw (halves_four c.args.masks.now len) c.put-in-len4-up.ensures.end
