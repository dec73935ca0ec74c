use Rattle.std.proofs.Common.{arith, sym, ◌∙◌}
use Rattle.rtp_values.proofs.ValueLemmas.{room_of, spelled-transmission_offset, AreData-transmission_offset, WritesData-put}
use Rattle.rtp_values.proofs.value.numbers.write_transmission_offset.Goals as goal

pub put_u32-requires : goal.put_u32-requires
put_u32-requires g c = record { room = room_of (spelled-transmission_offset (g.V.GetValues.values c.args.ev.now) (sym c.transmission_offset.ensures ∙ c.in_ok-offset.was)) (omega arith) c.args.buf.now c.requires.room }

pub returns : goal.returns
returns g c = WritesData-put (AreData-transmission_offset (g.V.GetValues.values c.args.ev.now) (sym c.transmission_offset.ensures ∙ c.in_ok-offset.was) c.put_u32.ensures.back) c.put_u32.ensures.length c.put_u32.ensures.written
