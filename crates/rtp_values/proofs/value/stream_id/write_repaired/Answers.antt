use Rattle.std.proofs.Common.{arith, refl}
use Rattle.rtp_values.proofs.ValueLemmas.{AreData-repaired, room_for, WritesData-put}
use Rattle.rtp_values.proofs.value.stream_id.write_repaired.Goals as goal

pub put_few-requires : goal.put_few-requires
put_few-requires g c =
    let some = c.in_ok-text.ensures.some in
    omega (arith, room_for (AreData-repaired (g.V.GetValues.values c.args.ev.now) some.1 some.2) c.args.buf.now c.requires.room)

pub returns : goal.returns
returns g c =
    let some = c.in_ok-text.ensures.some in
    WritesData-put (AreData-repaired (g.V.GetValues.values c.args.ev.now) some.1 some.2) refl c.put_few.ensures
