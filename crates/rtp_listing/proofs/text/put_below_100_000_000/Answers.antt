use Rattle.std.proofs.Common.{arith}
use Rattle.rtp_listing.proofs.TextLemmas.{in_two, decimal_more_four}
use Rattle.rtp_listing.proofs.text.put_below_100_000_000.Goals as goal

pub returns-else-number-lt10000-clause-written : goal.returns-else-number-lt10000-clause-written
returns-else-number-lt10000-clause-written c =
    let small = c.requires.small in
    in_two _ _ _ _ _ _ c.put_below_10_000-end.ensures.written c.put_four.ensures (decimal_more_four c.args.number c.if-number-lt10000.false (omega (arith, small)))
