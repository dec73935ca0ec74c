use Rattle.std.proofs.Common.{arith, sym, ◌∙◌}
use Rattle.rtp_values.proofs.ValueLemmas.{room_of, spelled-send_time, AreData-send_time, WritesData-put}
use Rattle.rtp_values.proofs.value.abs_send_time.write.Goals as goal

pub put_u24-requires : goal.put_u24-requires
put_u24-requires g c = record { small = omega arith; room = room_of (spelled-send_time (g.V.GetValues.values c.args.ev.now) (sym c.send_time.ensures ∙ c.in_ok-micros.was) c.ticks_of.ensures) (omega arith) c.args.buf.now c.requires.room }

pub returns : goal.returns
returns g c = WritesData-put (AreData-send_time (g.V.GetValues.values c.args.ev.now) (sym c.send_time.ensures ∙ c.in_ok-micros.was) c.ticks_of.ensures c.put_u24.ensures.back) c.put_u24.ensures.length c.put_u24.ensures.written
