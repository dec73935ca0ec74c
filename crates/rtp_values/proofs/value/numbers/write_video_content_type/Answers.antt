use Rattle.std.proofs.Common.{◌≡◌, ℕ, [], ◌∷◌, Some, refl, arith, sym, ◌∙◌}
use Rattle.rtp_values.specs.declared.kind.Extension.TheVariants.{VideoContentType}
use Rattle.rtp_values.specs.declared.value.values.ExtensionValues.{ExtensionValues}
use Rattle.rtp_values.specs.Spelling.{carried_values}
use Rattle.rtp_values.proofs.ValueLemmas.{AreData, room_for, WritesData-put}
use Rattle.rtp_values.proofs.value.numbers.write_video_content_type.Goals as goal

are : (values : ExtensionValues) (content : ℕ) → values.video_content_type ≡ Some content → AreData VideoContentType values (content ∷ [])
unfolding carried_values
are values content is = record { spelled = rw is refl; read_back = (omega arith, rw is refl); few = omega arith }

pub put-requires : goal.put-requires
put-requires g c = room_for (are (g.V.GetValues.values c.args.ev.now) c.in_ok-content.content (sym c.video_content_type.ensures ∙ c.in_ok-content.was)) c.args.buf.now c.requires.room

pub returns : goal.returns
returns g c = WritesData-put (are (g.V.GetValues.values c.args.ev.now) c.in_ok-content.content (sym c.video_content_type.ensures ∙ c.in_ok-content.was)) c.put.ensures.end c.put.ensures.written
