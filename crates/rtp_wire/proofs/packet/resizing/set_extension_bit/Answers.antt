use Rattle.rtp_wire.proofs.BlockLaidLemmas.{set-extension_bit}
use Rattle.rtp_wire.proofs.packet.resizing.set_extension_bit.Goals as goal

pub returns : goal.returns
returns c = set-extension_bit c.args.buf.now c.requires
