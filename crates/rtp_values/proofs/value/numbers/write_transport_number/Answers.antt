use Rattle.std.proofs.Common.{arith, sym, ◌∙◌}
use Rattle.rtp_values.proofs.ValueLemmas.{room_of, spelled-transport, AreData-transport, WritesData-put}
use Rattle.rtp_values.proofs.value.numbers.write_transport_number.Goals as goal

pub put_u16-requires : goal.put_u16-requires
put_u16-requires g c = record { room = room_of (spelled-transport (g.V.GetValues.values c.args.ev.now) (sym c.transport_number.ensures ∙ c.in_ok-number.was)) (omega arith) c.args.buf.now c.requires.room }

pub returns : goal.returns
returns g c = WritesData-put (AreData-transport (g.V.GetValues.values c.args.ev.now) (sym c.transport_number.ensures ∙ c.in_ok-number.was) c.put_u16.ensures.back) c.put_u16.ensures.length c.put_u16.ensures.written
