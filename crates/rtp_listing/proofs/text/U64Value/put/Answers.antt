use Rattle.rtp_listing.proofs.Common.{◌≡◌, ℕ, ◌++◌, ◌∙◌, ◌/◌, ◌%◌, take, ap, arith, decimal, four_digits}
use Rattle.rtp_listing.proofs.TextLemmas.{in_two, decimal_more_eight}
use Rattle.rtp_listing.proofs.text.U64Value.put.Goals as goal

pub returns-then-self-lt10000000000000000-clause-written : goal.returns-then-self-lt10000000000000000-clause-written
returns-then-self-lt10000000000000000-clause-written c =
    in_two _ _ _ _ _ _ c.put_below_100_000_000-end.ensures.written c.put_eight.ensures
    (decimal_more_eight c.args.self c.if-self-lt100000000.false c.ranges.self.fits)

pub returns-else-self-lt10000000000000000-clause-written : goal.returns-else-self-lt10000000000000000-clause-written
returns-else-self-lt10000000000000000-clause-written c =
    let number = c.args.self in
    let large = c.if-self-lt10000000000000000.false in
    let fits = c.ranges.self.fits in
    let front : decimal (number / 100000000)
    ≡ decimal (number / 10000000000000000) ++ (four_digits (number / 100000000 % 100000000 / 10000) ++ four_digits (number / 100000000 % 100000000 % 10000)) =
    decimal_more_eight (number / 100000000) (omega arith) (omega arith)
    ∙ ap (λ (m : ℕ). decimal m ++ (four_digits (number / 100000000 % 100000000 / 10000) ++ four_digits (number / 100000000 % 100000000 % 10000))) (omega arith) in
    ap (λ (n : ℕ). take n c.put_eight-else-self-lt10000000000000000-2.new.text) (omega arith)
    ∙ in_two _ _ _ _ _ _ (in_two _ _ _ _ _ _ c.put_below_10_000-end.ensures.written c.put_eight-else-self-lt10000000000000000.ensures front)
    c.put_eight-else-self-lt10000000000000000-2.ensures
    (decimal_more_eight number (omega arith) fits)
