use Rattle.rtp_listing.proofs.Common.{arith, common_steps}
use Rattle.rtp_listing.proofs.MapLineLemmas.{All-digits, IsUtf8-digits, not_text}
use Rattle.rtp_listing.proofs.map_line.id_of.Goals as goal

pub returns-then-digits-gt3-clause-only : goal.returns-then-digits-gt3-clause-only
returns-then-digits-gt3-clause-only c id m =
    let few = m.few in
    let all = All-digits c.args.digits.now m.are_digits in
    grind (arith, common_steps)

pub returns-in_err-ok-clause-only : goal.returns-in_err-ok-clause-only
returns-in_err-ok-clause-only c id m =
    absurd (not_text c.from_utf8.result c.args.digits.now _ c.from_utf8.ensures.cases c.in_err-ok.ensures.value (IsUtf8-digits c.args.digits.now m.are_digits))
