use Rattle.rtp_wire.proofs.Common.{◌≡◌, ◌+◌, ◌-◌, ◌/◌, ◌++◌, ℕ, replicate, ap, ◌∙◌, arith, w16, to_be_bytes, overwritten, form_word, padding_of}
use Rattle.rtp_wire.proofs.BlockWriting.{block-put}
use Rattle.rtp_wire.proofs.header.block.close_block.Goals as goal

pub returns-clause-closed : goal.returns-clause-closed
returns-clause-closed c before row put long len =
    let buf = c.args.buf.now in
    let n = c.args.elements_len in
    let body = c.in_words-body_len.result in
    let body-is : body ≡ n + padding_of n = c.in_words-body_len.ensures in
    let pad : body - n ≡ padding_of n = omega (arith, body-is) in
    block-put row before buf c.fill_word-len.new.buf c.put.new.buf c.block_header.result c.args.form n c.fill_word-len.result
    len (omega (arith, c.requires.room, long)) put
    (c.fill_word-len.ensures.written ∙ ap (λ (k : ℕ). overwritten buf (4 + n) (replicate k 0)) pad)
    (omega (arith, c.fill_word-len.ensures.end, pad))
    (c.block_header.ensures ∙ ap (λ (k : ℕ). to_be_bytes w16 (form_word c.args.form) ++ to_be_bytes w16 (k / 4)) body-is)
    c.put.ensures.written
