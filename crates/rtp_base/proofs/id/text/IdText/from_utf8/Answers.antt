use Rattle.rtp_base.proofs.Common.{ℕ, length, ◌≡◌, refl, sym, ◌∙◌, arith, length-replicate, IsUtf8-from_ascii}
use Rattle.rtp_base.proofs.IdLemmas.{IsIdOf-put}
use Rattle.rtp_base.proofs.IdTextLemmas.{id_text-ascii}
use Rattle.rtp_base.proofs.id.text.IdText.from_utf8.Goals as goal

pub invariant_of-result : goal.invariant_of-result
invariant_of-result g c =
    let text = c.args.bytes.now in
    let all = c.if-put_ascii.ensures in
    let len : _ ≡ g.row.N = length-replicate {A = ℕ} g.row.N 32 in
    (IsIdOf-put g.row.N text c.put_ascii.new.bytes (length text) (omega arith) (omega arith) (all.text ∙ sym (id_text-ascii g.row.N text all.ascii (omega arith))) all.rest).1

pub returns-then-put_ascii-clause-found : goal.returns-then-put_ascii-clause-found
returns-then-put_ascii-clause-found g c =
    let text = c.args.bytes.now in
    let all = c.if-put_ascii.ensures in
    let len : _ ≡ g.row.N = length-replicate {A = ℕ} g.row.N 32 in
    (IsIdOf-put g.row.N text c.put_ascii.new.bytes (length text) (omega arith) (omega arith) (all.text ∙ sym (id_text-ascii g.row.N text all.ascii (omega arith))) all.rest).0

pub returns-then-put_ascii-clause-some : goal.returns-then-put_ascii-clause-some
returns-then-put_ascii-clause-some g c = (λ _. IsUtf8-from_ascii c.args.bytes.now c.if-put_ascii.ensures.ascii, λ _. refl)
