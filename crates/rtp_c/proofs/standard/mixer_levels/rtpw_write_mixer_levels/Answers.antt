use Rattle.rtp_c.proofs.Common.{◌≤◌, length, arith, refl, sym, ◌∙◌, inl, inr, map, unsigned_abs, List, ℤ, All, length-map}
use Rattle.rtp_values.specs.StandardLevels.{IsLevel}
use Rattle.rtp_c.specs.StandardLevels.{AreLevelsData}
use Rattle.rtp_c.proofs.StandardLemmas.{StandAtFront-put, WritesData-put}
use Rattle.rtp_c.proofs.StatusLemmas.{short_buffer≢ok}
use Rattle.rtp_c.proofs.standard.mixer_levels.rtpw_write_mixer_levels.Goals as goal

data_of : (levels : List ℤ) → length levels ≤ 15 → All IsLevel levels → AreLevelsData levels (map unsigned_abs levels)
data_of levels few are = record { few = few; are_levels = are; bytes_are = refl }

pub returns-then-are_levels : goal.returns-then-are_levels
returns-then-are_levels c =
    WritesData-put (data_of c.args.levels.now (omega arith) (c.if-are_levels.ensures.0 refl)) (record {
      written = λ is. absurd (short_buffer≢ok is);
      short = (λ _. omega (arith, length-map c.args.levels.now unsigned_abs), λ _. refl);
      statuses = inr refl;
      unchanged = λ _. (refl, refl);
    })

pub returns : goal.returns
returns c =
    let long = length-map c.args.levels.now unsigned_abs in
    WritesData-put (data_of c.args.levels.now (omega arith) c.in-Some.ensures.result.0) (record {
      written = λ _. StandAtFront-put c.args.buf.now (map unsigned_abs c.args.levels.now) c.write_mixer_audio_levels.new.buf c.in-Some.count
          (c.in-Some.ensures.result.1 ∙ sym long) c.in-Some.ensures.written;
      short = (λ is. absurd (short_buffer≢ok (sym is)), λ less. absurd (omega (arith, long, less)));
      statuses = inl refl;
      unchanged = λ no. absurd (no refl);
    })
