use Rattle.rtp_ext.proofs.Common.{arith, ap, ◌∙◌, ◌+◌, ℕ, List, length, overwritten, overwritten-overwritten, element_header}
use Rattle.rtp_ext.proofs.WrittenBlockLemmas.{length-header, header-append}
use Rattle.rtp_ext.proofs.raw_writing.put_element.Goals as goal

pub returns-clause-written : goal.returns-clause-written
returns-clause-written c =
    let bytes = c.args.bytes.now in
    let start = c.args.at + c.element_header_len.result in
    let element_header_len = c.element_header_len.ensures c.args.id (length bytes) in
    c.put_few.ensures
    ∙ (ap (λ (b : List ℕ). overwritten b start bytes) c.write_header.ensures
    ∙ (overwritten-overwritten c.args.buf.now (element_header c.args.form c.args.id (length bytes)) bytes c.args.at start
    (ap (λ (n : ℕ). c.args.at + n) element_header_len) (omega (arith, c.requires.room, element_header_len, length-header c.args.form c.args.id bytes))
    ∙ ap (overwritten c.args.buf.now c.args.at) (header-append c.args.form c.args.id bytes)))
