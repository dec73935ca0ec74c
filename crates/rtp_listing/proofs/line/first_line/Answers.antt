use Rattle.rtp_listing.proofs.Common.{◌+◌, arith, take_rest}
use Rattle.rtp_listing.proofs.LineLemmas.{lines-feed, lines-last}
use Rattle.rtp_listing.proofs.line.first_line.Goals as goal

pub returns-then-len-text-clause-first : goal.returns-then-len-text-clause-first
returns-then-len-text-clause-first c = lines-last c.args.text.now c.requires (λ k below. c.line_len-len.ensures.none k (omega (arith, below)))

pub returns-clause-first : goal.returns-clause-first
returns-clause-first c =
    let text = c.args.text.now in
    let len = c.line_len-len.result in
    rw (c.without_return.ensures, take_rest text (len + 1)) (lines-feed text len (omega arith) (c.line_len-len.ensures.feed (omega arith)) c.line_len-len.ensures.none)
