use Rattle.std.proofs.Common.{ℕ, ◌-◌, ◌≤◌, List, length, take, drop, ap, ◌∙◌, arith, length-drop}
use Rattle.std.proofs.lemmas.List.{take_all, take_rest}
use Rattle.rtp_base.specs.Overwriting.{overwritten}
use Rattle.rtp_route.proofs.CopyLemmas.{copied-last, copied-two}
use Rattle.rtp_route.proofs.copying.put_header.Goals as goal
use Rattle.rtp_route.proofs.copying.put_header.Goals.{then-len-gt32, else-len-gt32}

pub returns : goal.returns
returns c =
    let buf = c.args.buf.now in
    let bytes = c.args.bytes.now in
    let from = length bytes - 16 in
    let some : 16 ≤ length bytes = omega (arith, c.if-len-lt16.false) in
    let last = ap (take 16) (take_rest bytes from) ∙ take_all 16 (drop from bytes) (omega (arith, length-drop from bytes, some)) in
    c.put_16-2.ensures ∙ (ap (overwritten c.if-len-gt32.buf from) last
    ∙ elim c.if-len-gt32.branch [
      | then-len-gt32 w ↦
          let more : 32 ≤ length bytes = omega (arith, w.if-len-gt32.true) in
          ap (λ (b : List ℕ). overwritten b from (drop from bytes))
          (w.buf-is ∙ (w.put_16-then-len-gt32.ensures ∙ (ap (overwritten c.put_16.new.buf 16) (ap (take 16) (take_rest bytes 16))
          ∙ (ap (λ (b : List ℕ). overwritten b 16 (take 16 (drop 16 bytes))) c.put_16.ensures ∙ copied-two buf bytes more c.requires))))
          ∙ copied-last buf bytes 32 from (omega (arith, c.if-len-gt48.false, some)) more c.requires
      | else-len-gt32 w ↦
          ap (λ (b : List ℕ). overwritten b from (drop from bytes)) (w.buf-is ∙ c.put_16.ensures)
          ∙ copied-last buf bytes 16 from (omega (arith, w.if-len-gt32.false, some)) some c.requires
    ])
