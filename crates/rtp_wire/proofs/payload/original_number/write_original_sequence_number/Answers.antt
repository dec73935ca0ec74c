use Rattle.rtp_wire.proofs.Common.{ℕ, ◌%◌, List, ap, ◌∙◌, w16, to_be_bytes, overwritten, overwritten-front}
use Rattle.rtp_wire.proofs.payload.original_number.write_original_sequence_number.Goals as goal

pub returns-clause-written : goal.returns-clause-written
returns-clause-written c =
    let number : List ℕ = to_be_bytes w16 (c.args.original % 65536) in
    c.put.ensures.written
    ∙ (ap (λ (bytes : List ℕ). overwritten c.args.buf.now 0 bytes) (c.to_be_bytes.ensures ∙ ap (to_be_bytes w16) c.as_u16.ensures)
    ∙ overwritten-front c.args.buf.now number)
