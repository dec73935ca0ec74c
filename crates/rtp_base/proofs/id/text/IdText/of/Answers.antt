use Rattle.rtp_base.proofs.Common.{arith, ◌≡◌, ℕ, ap, ◌∙◌, length-replicate, id_text}
use Rattle.rtp_base.proofs.IdLemmas.{IsIdOf-put}
use Rattle.rtp_base.proofs.id.text.IdText.of.Goals as goal

pub invariant_of-result : goal.invariant_of-result
invariant_of-result g c =
    let len : _ ≡ g.row.N = length-replicate {A = ℕ} g.row.N 32 in
    (IsIdOf-put g.row.N c.args.text.now c.put_text.new.bytes c.put_text.result (omega arith) (omega arith)
    (c.put_text.ensures.text ∙ ap (λ (n : ℕ). id_text n c.args.text.now) len) c.put_text.ensures.rest).1

pub returns : goal.returns
returns g c =
    let len : _ ≡ g.row.N = length-replicate {A = ℕ} g.row.N 32 in
    (IsIdOf-put g.row.N c.args.text.now c.put_text.new.bytes c.put_text.result (omega arith) (omega arith)
    (c.put_text.ensures.text ∙ ap (λ (n : ℕ). id_text n c.args.text.now) len) c.put_text.ensures.rest).0
