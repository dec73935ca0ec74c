use Rattle.std.proofs.Common.{arith, rules, inl, inr}
use Rattle.std.proofs.lemmas.Nat.{one_shl}
use Rattle.rtp_receive.proofs.NearestLemmas.{IsWidened-ahead, IsWidened-before}
use Rattle.rtp_receive.proofs.widening.widened.Goals as goal
use Rattle.rtp_receive.proofs.widening.widened.Goals.{else-ahead-half-2-via-then-ahead-half-2+else-previous-modulus, else-ahead-half-2-via-else-ahead-half-2}

pub returns-then-ahead-half : goal.returns-then-ahead-half
returns-then-ahead-half c =
    IsWidened-ahead c.args.bits _ c.args.previous c.in-Some.previous c.args.number c.requires.some c.requires.few c.in-Some.is (search rules) (one_shl c.args.bits 64 (omega arith))
    (inl c.if-ahead-half.true)

pub returns-then-previous-modulus : goal.returns-then-previous-modulus
returns-then-previous-modulus c =
    IsWidened-ahead c.args.bits _ c.args.previous c.in-Some.previous c.args.number c.requires.some c.requires.few c.in-Some.is (search rules) (one_shl c.args.bits 64 (omega arith))
    (inr (c.if-ahead-half-2.true, c.if-previous-modulus.true))

pub returns : goal.returns
returns c =
    IsWidened-before c.args.bits _ c.args.previous c.in-Some.previous c.args.number c.requires.some c.requires.few c.in-Some.is (search rules) (one_shl c.args.bits 64 (omega arith))
    c.if-ahead-half.false (elim c.else-ahead-half-2.branch [
      | else-ahead-half-2-via-then-ahead-half-2+else-previous-modulus w ↦ λ _. w.if-previous-modulus.false
      | else-ahead-half-2-via-else-ahead-half-2 w ↦ λ just. absurd (w.if-ahead-half-2.false just)
    ])
