use Rattle.std.proofs.Common.{◌≡◌, take, map, unsigned_abs}
use Rattle.rtp_base.specs.Overwriting.{overwritten}
use Rattle.rtp_values.proofs.standard.mixer_levels.write_mixer_audio_levels.Given as goal

abbrev pub invariant-loop-index : goal.invariant-loop-index
invariant-loop-index l = l.buf ≡ overwritten l.initial.buf 0 (map unsigned_abs (take l.index l.levels))
