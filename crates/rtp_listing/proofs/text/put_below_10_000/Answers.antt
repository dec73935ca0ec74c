use Rattle.std.proofs.Common.{arith}
use Rattle.rtp_listing.proofs.TextLemmas.{in_two, decimal_more_two}
use Rattle.rtp_listing.proofs.text.put_below_10_000.Goals as goal

pub returns-else-number-lt100-clause-written : goal.returns-else-number-lt100-clause-written
returns-else-number-lt100-clause-written c =
    let small = c.requires.small in
    in_two _ _ _ _ _ _ c.put_below_100-end.ensures.written c.put_two.ensures (decimal_more_two c.args.number c.if-number-lt100.false (omega (arith, small)))
