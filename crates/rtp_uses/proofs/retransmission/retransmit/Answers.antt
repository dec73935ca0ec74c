use Rattle.std.proofs.Common.{◌≡◌, ◌+◌, ◌%◌, ◌++◌, List, ℕ, drop, ap, ◌∙◌, length, length-append, append_assoc, arith}
use Rattle.std.specs.Int.{w16, to_be_bytes}
use Rattle.rtp_base.specs.Overwriting.{overwritten}
use Rattle.rtp_wire.specs.Written.{wire_bytes}
use Rattle.rtp_base.proofs.OverwritingLemmas.{overwritten-after, put-after}
use Rattle.rtp_uses.proofs.retransmission.retransmit.Goals as goal

pub returns-clause-written : goal.returns-clause-written
returns-clause-written c =
    let out = c.args.out.now in
    let payload = c.args.payload.now in
    let header = wire_bytes c.args.exts.now c.args.header.now in
    let number : List ℕ = to_be_bytes w16 (c.args.original % 65536) in
    let at = c.write_to-at.result in
    let start = at + c.write_original_sequence_number.result in
    let start-is : start ≡ length (header ++ number) = omega (arith, length-append header number, c.write_to-at.ensures.length, c.write_original_sequence_number.ensures.length) in
    c.put.ensures.written
    ∙ (ap (λ (xs : List ℕ). overwritten xs start payload)
    (put-after header number out c.write_to-at.new.buf c.write_original_sequence_number.new.buf at start c.write_to-at.ensures.written c.write_to-at.ensures.length
    (omega arith) (omega arith) c.write_original_sequence_number.ensures.written)
    ∙ (overwritten-after (header ++ number) payload out start c.put.result start-is c.put.ensures.end
    ∙ append_assoc header number (payload ++ drop c.put.result out)))
