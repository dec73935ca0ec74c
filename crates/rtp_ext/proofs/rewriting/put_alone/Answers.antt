use Rattle.rtp_ext.proofs.Common.{◌≡◌, List, ℕ, length, take, arith, ap, ◌∙◌, elements_bytes}
use Rattle.std.proofs.Math.Seq.{take-append_seam}
use Rattle.rtp_base.proofs.OverwritingLemmas.{overwritten-front}
use Rattle.rtp_ext.specs.ElementsInARow.{elements_added}
use Rattle.rtp_ext.proofs.AnewLemmas.{row_to-zeros}
use Rattle.rtp_ext.proofs.rewriting.put_alone.Goals as goal

pub clear_after-requires : goal.clear_after-requires
clear_after-requires c = omega (arith, c.requires.room, c.added_len.ensures.length, c.put_added.auto.body)

pub returns : goal.returns
returns c =
    let bytes : List ℕ = elements_bytes c.args.form (elements_added c.args.comes) in
    let front : take (length bytes) c.put_added.new.body ≡ bytes =
    ap (take (length bytes)) (c.put_added.ensures ∙ overwritten-front c.args.body.now bytes) ∙ take-append_seam bytes _ in
    c.clear_after.ensures
    ∙ row_to-zeros c.args.form (elements_added c.args.comes) c.put_added.new.body c.put_added.auto.body
    (ap (λ (n : ℕ). take n c.put_added.new.body) c.added_len.ensures.length ∙ front)
    c.added_len.ensures.length (omega (arith, c.requires.room, c.added_len.ensures.length))
