use Rattle.std.proofs.Common.{[], sym, ap, ◌∙◌, arith}
use Rattle.rtp_base.proofs.OverwritingLemmas.{overwritten-nil}
use Rattle.rtp_wire.specs.GrowingPacket.{with_extension}
use Rattle.std.specs.Prelude.{false}
use Rattle.rtp_wire.proofs.SplicedLemmas.{clear-extension_bit, spliced-put}
use Rattle.rtp_wire.proofs.packet.replacing_block.cut_out.Goals as goal

pub returns : goal.returns
returns c =
    clear-extension_bit c.move_bytes.new.buf (omega (arith, c.requires.some, c.requires.order, c.requires.after, c.requires.within, c.move_bytes.auto.buf))
    ∙ ap (with_extension false) (sym (overwritten-nil c.move_bytes.new.buf c.args.start)
    ∙ spliced-put c.args.buf.now c.move_bytes.new.buf [] c.args.len c.args.start c.args.end c.args.start c.requires.after c.requires.within (omega arith) (omega (arith, c.requires.order, c.requires.after, c.requires.within)) c.move_bytes.ensures)
