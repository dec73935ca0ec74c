use Rattle.rtp_listing.proofs.Common.{List, ℕ, ◌++◌, take, ap, sym, ◌∙◌, decimal_digit}
use Rattle.rtp_listing.proofs.TextLemmas.{decimal_two}
use Rattle.rtp_listing.proofs.text.put_below_100.Goals as goal

pub returns-then-number-lt10-clause-written : goal.returns-then-number-lt10-clause-written
returns-then-number-lt10-clause-written c =
    c.put_bytes.ensures.written ∙ ap (λ (xs : List ℕ). take c.args.at c.args.text.now ++ xs) (sym (decimal_digit c.args.number c.if-number-lt10.true))

pub returns-else-number-lt10-clause-written : goal.returns-else-number-lt10-clause-written
returns-else-number-lt10-clause-written c =
    c.put_two.ensures ∙ ap (λ (xs : List ℕ). take c.args.at c.args.text.now ++ xs) (sym (decimal_two c.args.number c.if-number-lt10.false c.requires.small))
