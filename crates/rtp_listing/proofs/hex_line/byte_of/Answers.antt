use Rattle.std.proofs.Common.{refl}
use Rattle.rtp_listing.proofs.HexLineLemmas.{byte_is}
use Rattle.rtp_listing.proofs.hex_line.byte_of.Goals as goal

pub returns : goal.returns
returns c = (byte_is c.args.high c.args.low c.requires.high c.requires.low _ refl).1
