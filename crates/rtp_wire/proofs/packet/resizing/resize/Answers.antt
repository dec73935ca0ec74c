use Rattle.rtp_wire.proofs.ResizedLemmas.{resized-put}
use Rattle.std.proofs.Common.{refl}
use Rattle.rtp_wire.proofs.packet.resizing.resize.Goals as goal

pub returns : goal.returns
returns c =
    resized-put c.args.buf.now c.move_bytes.new.buf c.put.new.buf c.to_be_bytes.result c.args.len c.args.block_at c.args.payload_at c.args.body_len _
    c.requires.order c.requires.within c.requires.room refl c.move_bytes.ensures c.to_be_bytes.ensures c.put.ensures.written
