use Rattle.std.proofs.Common.{arith, ◌≡◌, ℕ, ℤ, Bool, ap, ◌∙◌, rules, w8, to_z, of_z, FitsSigned, sym}
use Rattle.std.proofs.lemmas.Int.{to_z-of_z}
use Rattle.rtp_values.proofs.ValueLemmas.{room_of, level_byte, spelled-level, AreData-level, WritesData-put}
use Rattle.rtp_values.proofs.value.audio_level.write.Goals as goal

byte_is : (level : ℤ) (voice : Bool) (byte : ℕ) → FitsSigned w8 level → byte ≡ level_byte (to_z w8 (of_z w8 level)) voice → byte ≡ level_byte level voice
byte_is level voice byte fits is = is ∙ ap (λ (z : ℤ). level_byte z voice) (to_z-of_z w8 level fits)

pub put-requires : goal.put-requires
put-requires g c =
    let fits : FitsSigned w8 c.in_ok-level.level = search rules in
    room_of (spelled-level (g.V.GetValues.values c.args.ev.now) (sym c.audio_level.ensures ∙ c.in_ok-level.was) (sym c.voice_activity.ensures ∙ c.in_ok-voice.was) (byte_is _ _ _ fits c.level_byte.ensures)) (omega arith) c.args.buf.now c.requires.room

pub returns : goal.returns
returns g c =
    let fits : FitsSigned w8 c.in_ok-level.level = search rules in
    WritesData-put (AreData-level (g.V.GetValues.values c.args.ev.now) (sym c.audio_level.ensures ∙ c.in_ok-level.was) (sym c.voice_activity.ensures ∙ c.in_ok-voice.was) (byte_is _ _ _ fits c.level_byte.ensures)) c.put.ensures.end c.put.ensures.written
