use Rattle.rtp_listing.proofs.HexLineLemmas.{digits_from_ok}
use Rattle.rtp_listing.proofs.hex_line.decode_into.Goals as goal

pub write_bytes-requires-clause-digits : goal.write_bytes-requires-clause-digits
write_bytes-requires-clause-digits c = (digits_from_ok c.args.digits.now c.requires.hex).1

pub write_bytes-requires-clause-even : goal.write_bytes-requires-clause-even
write_bytes-requires-clause-even c = (digits_from_ok c.args.digits.now c.requires.hex).0
