use Rattle.rtp_listing.proofs.Common.{refl, take_rest}
use Rattle.rtp_listing.proofs.InputLemmas.{past-none, past-more}
use Rattle.rtp_listing.proofs.input.past_digits.Goals as goal

pub returns-then-rest-lt64 : goal.returns-then-rest-lt64
returns-then-rest-lt64 c = past-none c.args.text.now

pub loop-rest-init : goal.loop-rest-init
loop-rest-init c = past-none c.args.text.now

pub loop-rest-preserved : goal.loop-rest-preserved
loop-rest-preserved c =
    rw (take_rest c.loop-rest.rest.now 64) (past-more c.args.text.now c.loop-rest.rest.now 64 c.loop-rest-test.true refl (c.are_digits.ensures.0 c.if-are_digits.true) c.loop-rest.invariant)
