use Rattle.rtp_listing.proofs.HexLineLemmas.{IsOk-digits, digits_from_ok}
use Rattle.rtp_listing.proofs.hex_line.is_hex.Goals as goal

pub returns-then-line-eq0 : goal.returns-then-line-eq0
returns-then-line-eq0 c = (
  λ all. IsOk-digits c.args.line.now c.if-line-eq0.true (c.are_digits.ensures.0 all),
  λ ok. c.are_digits.ensures.1 (digits_from_ok c.args.line.now ok).1,
)
