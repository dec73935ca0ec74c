use Rattle.std.proofs.Common.{arith, sym, ◌∙◌}
use Rattle.rtp_values.proofs.ValueLemmas.{room_of, spelled-orientation, AreData-orientation, WritesData-put}
use Rattle.rtp_values.proofs.value.video_orientation.write.Goals as goal

pub put-requires : goal.put-requires
put-requires g c = room_of (spelled-orientation (g.V.GetValues.values c.args.ev.now) (sym c.video_orientation.ensures ∙ c.in_ok-orientation.was) c.orientation_bits.ensures) (omega arith) c.args.buf.now c.requires.room

pub returns : goal.returns
returns g c = WritesData-put (AreData-orientation (g.V.GetValues.values c.args.ev.now) (sym c.video_orientation.ensures ∙ c.in_ok-orientation.was) c.orientation_bits.ensures) c.put.ensures.end c.put.ensures.written
