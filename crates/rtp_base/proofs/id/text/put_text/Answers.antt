use Rattle.rtp_base.proofs.Common.{arith, ℕ, inl, inr, ap, ◌∙◌, id_text}
use Rattle.rtp_base.proofs.IdTextLemmas.{KeptSoFar-all}
use Rattle.rtp_base.proofs.id.text.put_text.Goals as goal

pub returns-after-loop-byte-clause-text : goal.returns-after-loop-byte-clause-text
returns-after-loop-byte-clause-text c =
    KeptSoFar-all c.args.text.now c.args.bytes.now c.loop-byte.bytes c.loop-byte.len c.loop-byte.byte-index c.utf8.text (inr (omega arith)) c.loop-byte.invariant
    ∙ ap (λ (n : ℕ). id_text n c.args.text.now) c.loop-byte.auto.bytes

pub returns-then-len-bytes-clause-text : goal.returns-then-len-bytes-clause-text
returns-then-len-bytes-clause-text c =
    KeptSoFar-all c.args.text.now c.args.bytes.now c.loop-byte.bytes c.loop-byte.len c.loop-byte.byte-index c.utf8.text (inl c.if-len-bytes.true) c.loop-byte.invariant
    ∙ ap (λ (n : ℕ). id_text n c.args.text.now) c.loop-byte.auto.bytes
