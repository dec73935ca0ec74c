use Rattle.std.proofs.Common.{arith, rules, sym, ◌≡◌, ◌≤◌, ◌<◌, ℕ, ℤ, ◌+◌, ◌++◌, [], ◌∷◌, List, length, take, map, unsigned_abs, pos, slice_index_or, add-one, ap, refl, ◌∙◌, length-take-le, FitsSigned, w8}
use Rattle.std.proofs.Math.Seq.{take-suc}
use Rattle.std.proofs.lemmas.List.{map-append, length-map}
use Rattle.std.proofs.lemmas.Int.{to_z-of_z}
use Rattle.std.proofs.lemmas.Int.{ints}
use Rattle.std.proofs.Math.ListN.{get_or-map}
use Rattle.std.specs.Prelude.{All, slice_index}
use Rattle.rtp_values.specs.StandardLevels.{IsLevel, level_in}
use Rattle.rtp_base.specs.Overwriting.{overwritten}
use Rattle.rtp_base.proofs.OverwritingLemmas.{overwritten-nil, overwritten-overwritten}
use Rattle.rtp_values.proofs.standard.mixer_levels.write_mixer_audio_levels.Goals as goal

levels-next : (levels : List ℤ) (d : ℤ) (i : ℕ) → i < length levels
    → map unsigned_abs (take (i + 1) levels) ≡ map unsigned_abs (take i levels) ++ (unsigned_abs (slice_index_or levels i d) ∷ [])
levels-next levels d i within =
    let next : take (i + 1) levels ≡ take i levels ++ (slice_index_or levels i d ∷ []) = rw add-one (take-suc levels i d within) in
    ap (map unsigned_abs) next ∙ map-append unsigned_abs (take i levels) (slice_index_or levels i d ∷ [])

put-next : (buf mid new : List ℕ) (levels : List ℤ) (d : ℤ) (byte i : ℕ) → i < length levels → length levels ≤ length buf
    → mid ≡ overwritten buf 0 (map unsigned_abs (take i levels)) → byte ≡ unsigned_abs (slice_index_or levels i d)
    → new ≡ overwritten mid i (byte ∷ []) → new ≡ overwritten buf 0 (map unsigned_abs (take (i + 1) levels))
put-next buf mid new levels d byte i within room mid-is byte-is put =
    let front = map unsigned_abs (take i levels) in
    let level = unsigned_abs (slice_index_or levels i d) in
    let len : length front ≡ i = length-map (take i levels) unsigned_abs ∙ length-take-le i levels (omega arith) in
    let next : overwritten mid i (byte ∷ []) ≡ overwritten (overwritten buf 0 front) i (level ∷ []) = rw (mid-is, byte-is) refl in
    put ∙ next ∙ overwritten-overwritten buf front (level ∷ []) 0 i (omega (arith, len)) (omega arith)
    ∙ ap (overwritten buf 0) (sym (levels-next levels d i within))

pub loop-index-init : goal.loop-index-init
loop-index-init c = sym (overwritten-nil c.args.buf.now 0)

pub loop-index-preserved : goal.loop-index-preserved
loop-index-preserved c =
    let level = slice_index_or c.args.levels.now c.loop-index.index (pos 0) in
    let fits : FitsSigned w8 level = search rules in
    put-next c.args.buf.now c.loop-index.buf c.put.new.buf c.args.levels.now (pos 0) c.unsigned_abs.result c.loop-index.index c.loop-index-test.true c.requires.room
    c.loop-index.invariant (c.unsigned_abs.ensures.value ∙ ap unsigned_abs (to_z-of_z w8 level fits)) c.put.ensures.written

level-again : (level : ℤ) → IsLevel level → level_in (unsigned_abs level) ≡ level
level-again level is = omega (arith, ints)

levels-again : (levels : List ℤ) → All IsLevel levels → (i : ℕ) → i < length levels
    → level_in (slice_index (map unsigned_abs levels) i) ≡ slice_index_or levels i (pos 0)
levels-again levels are i within =
    ap level_in (get_or-map unsigned_abs levels i (pos 0)) ∙ level-again (slice_index_or levels i (pos 0)) (are i (pos 0) within)

pub returns-clause-back : goal.returns-clause-back
returns-clause-back c =
    let are : All IsLevel c.args.levels.now = search (rules, c.if-not-are_levels.ensures) in
    levels-again c.args.levels.now are
