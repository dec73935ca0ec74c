use Rattle.std.proofs.Common.{ℕ, ◌+◌, ◌*◌, arith, get_or, ap, ◌∙◌}
use Rattle.std.proofs.lemmas.Nat.{and_mask}
use Rattle.rtp_listing.proofs.HeaderBytesLemmas.{header_end-clear, header_end-set}
use Rattle.rtp_listing.proofs.header_bytes.header_len.Goals as goal

pub returns-then-front-eq0 : goal.returns-then-front-eq0
returns-then-front-eq0 c =
    header_end-clear c.args.front.now _ c.if-front-eq0.true (omega (arith, c.from.ensures, and_mask (get_or c.args.front.now 0 0) 4))

pub returns : goal.returns
returns c =
    ap (λ (words : ℕ). 12 + 4 * c.from.result + 4 + 4 * words) (c.from-2.ensures ∙ c.from_be_bytes-words.ensures)
    ∙ header_end-set c.args.front.now (12 + 4 * c.from.result) c.if-front-eq0.false (omega (arith, c.from.ensures, and_mask (get_or c.args.front.now 0 0) 4))
