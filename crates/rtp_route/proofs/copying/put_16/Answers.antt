use Rattle.std.proofs.Common.{ℕ, List, ◌++◌, length, take, ap, ◌∙◌, arith, length-take-le}
use Rattle.std.proofs.lemmas.List.{drop-drop}
use Rattle.std.proofs.lemmas.Simd.{put_chunk_is}
use Rattle.rtp_base.specs.Overwriting.{overwritten}
use Rattle.rtp_route.proofs.copying.put_16.Goals as goal

pub returns : goal.returns
unfolding overwritten
returns c =
    let buf = c.args.buf.now in
    let at = c.args.at in
    let first = take 16 c.args.bytes.now in
    put_chunk_is at buf first (omega (arith, length-take-le 16 c.args.bytes.now c.requires.whole, c.requires.room))
    ∙ ap (λ (rest : List ℕ). take at buf ++ (first ++ rest)) (drop-drop (length first) at buf)
