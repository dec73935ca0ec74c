use Rattle.std.proofs.Common.{arith, sym, ◌∙◌}
use Rattle.rtp_values.proofs.ValueLemmas.{room_of, spelled-frame_marking, AreData-frame_marking, WritesData-put}
use Rattle.rtp_values.proofs.value.numbers.write_frame_marking.Goals as goal

pub put_u32-requires : goal.put_u32-requires
put_u32-requires g c = record { room = room_of (spelled-frame_marking (g.V.GetValues.values c.args.ev.now) (sym c.frame_marking.ensures ∙ c.in_ok-marking.was)) (omega arith) c.args.buf.now c.requires.room }

pub returns : goal.returns
returns g c = WritesData-put (AreData-frame_marking (g.V.GetValues.values c.args.ev.now) (sym c.frame_marking.ensures ∙ c.in_ok-marking.was) c.put_u32.ensures.back) c.put_u32.ensures.length c.put_u32.ensures.written
