use Rattle.std.proofs.Common.{arith, sym, ◌∙◌}
use Rattle.rtp_values.proofs.ValueLemmas.{room_of, spelled-delays, AreData-delays, WritesData-put}
use Rattle.rtp_values.proofs.value.playout_delay.write.Goals as goal

pub put_u24-requires : goal.put_u24-requires
put_u24-requires g c = record { small = omega arith; room = room_of (spelled-delays (g.V.GetValues.values c.args.ev.now) (sym c.playout_delay_min.ensures ∙ c.in_ok-min.was) (sym c.playout_delay_max.ensures ∙ c.in_ok-max.was) c.delay_of.ensures c.delay_of-2.ensures) (omega arith) c.args.buf.now c.requires.room }

pub returns : goal.returns
returns g c = WritesData-put (AreData-delays (g.V.GetValues.values c.args.ev.now) (sym c.playout_delay_min.ensures ∙ c.in_ok-min.was) (sym c.playout_delay_max.ensures ∙ c.in_ok-max.was) c.delay_of.ensures c.delay_of-2.ensures c.put_u24.ensures.back) c.put_u24.ensures.length c.put_u24.ensures.written
