use Rattle.rtp_listing.proofs.Common.{sym, ◌∙◌, nil_from_length, eqb-true, arith}
use Rattle.rtp_listing.proofs.InputLemmas.{SoFar-none, SoFar-passed, SoFar-more, IsFirstNotHex-here, IsHexText-all, past-few}
use Rattle.rtp_listing.proofs.input.first_not_hex.Goals as goal

pub loop-rest-init : goal.loop-rest-init
loop-rest-init c = SoFar-passed c.args.text.now _ _ c.args.lines_before _ c.past_digits-rest.ensures (SoFar-none c.args.text.now c.args.lines_before)

pub loop-rest-preserved : goal.loop-rest-preserved
loop-rest-preserved c =
    SoFar-passed c.args.text.now c.first_line.result.1.now _ _ _ c.past_digits-rest-in-loop-rest.ensures
    (SoFar-more c.args.text.now c.loop-rest.rest.now c.first_line.result.1.now _ _ _ c.first_line.ensures.first c.loop-rest.invariant c.first_line.ensures.shorter (c.is_hex.ensures.0 c.if-not-is_hex.false))

pub loop-rest-smaller : goal.loop-rest-smaller
loop-rest-smaller c = omega (arith, c.first_line.ensures.shorter, past-few c.first_line.result.1.now _ c.past_digits-rest-in-loop-rest.ensures)

pub returns-then-not-is_hex-clause-found : goal.returns-then-not-is_hex-clause-found
returns-then-not-is_hex-clause-found c =
    IsFirstNotHex-here c.args.text.now c.loop-rest.rest.now c.first_line.result.1.now _ _ _ c.first_line.ensures.first c.loop-rest.invariant
    (λ ok. let is = c.is_hex.ensures.1 ok in absurd (cc))

pub returns-clause-none : goal.returns-clause-none
returns-clause-none c =
    IsHexText-all c.args.text.now _ _ _ (nil_from_length _ (eqb-true _ 0 (sym c.is_empty.ensures ∙ c.loop-rest-test.false))) c.loop-rest.invariant
