use Rattle.rtp_listing.proofs.DecodedLemmas.{decoded-nothing}
use Rattle.rtp_listing.proofs.HexLineLemmas.{digits_from_ok}
use Rattle.rtp_listing.proofs.hex_line.datagram.Goals as goal

pub write_bytes-requires-clause-digits : goal.write_bytes-requires-clause-digits
write_bytes-requires-clause-digits c = (digits_from_ok c.args.line.now (c.is_hex.ensures.0 c.if-not-is_hex.false)).1

pub write_bytes-requires-clause-even : goal.write_bytes-requires-clause-even
write_bytes-requires-clause-even c = (digits_from_ok c.args.line.now (c.is_hex.ensures.0 c.if-not-is_hex.false)).0

pub write_bytes-requires-clause-before : goal.write_bytes-requires-clause-before
write_bytes-requires-clause-before c = decoded-nothing
