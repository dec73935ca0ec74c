use Rattle.rtp_wire.proofs.PaddingLemmas.{set-padding_bit}
use Rattle.rtp_wire.proofs.payload.padding.set_padding_bit.Goals as goal

pub returns : goal.returns
returns c = set-padding_bit c.args.buf.now c.requires
