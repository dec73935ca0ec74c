use Rattle.std.proofs.Common.{◌≡◌, ◌+◌, ◌/◌, List, ℕ, length, true, ap, refl, ◌∙◌, arith}
use Rattle.std.specs.Int.{w16, to_be_bytes}
use Rattle.rtp_base.specs.Overwriting.{overwritten}
use Rattle.rtp_wire.specs.GrowingPacket.{with_extension, block_bytes}
use Rattle.rtp_wire.proofs.SplicedLemmas.{with_extension-bit, put-block, spliced-put}
use Rattle.rtp_wire.proofs.packet.replacing_block.splice_block.Goals as goal

pub returns : goal.returns
returns c =
    let profile : List ℕ = to_be_bytes w16 c.args.profile in
    let words : List ℕ = to_be_bytes w16 (length c.args.body.now / 4) in
    let part : List ℕ = block_bytes c.args.profile c.args.body.now in
    let long : length part ≡ 4 + length c.args.body.now = omega arith in
    let at : c.args.start + 4 + length c.args.body.now ≡ c.args.start + length part = omega (arith, long) in
    let put : c.put-3.new.buf ≡ overwritten (overwritten (overwritten c.move_bytes.new.buf c.args.start profile) (c.args.start + 2) words) (c.args.start + 4) c.args.body.now =
    c.put-3.ensures.written
    ∙ ap (λ (xs : List ℕ). overwritten xs (c.args.start + 4) c.args.body.now) (c.put-2.ensures.written
    ∙ ap (λ (xs : List ℕ). overwritten xs (c.args.start + 2) c.to_be_bytes-2.result) (c.put.ensures.written ∙ ap (overwritten c.move_bytes.new.buf c.args.start) c.to_be_bytes.ensures)
    ∙ ap (overwritten (overwritten c.move_bytes.new.buf c.args.start profile) (c.args.start + 2)) c.to_be_bytes-2.ensures) in
    c.set_extension_bit.ensures ∙ with_extension-bit _
    ∙ ap (with_extension true) (put
    ∙ put-block c.move_bytes.new.buf profile words c.args.body.now c.args.start (c.args.start + 2) (c.args.start + 4) refl refl refl refl (omega (arith, c.requires.room, c.move_bytes.auto.buf))
    ∙ spliced-put c.args.buf.now c.move_bytes.new.buf part c.args.len c.args.start c.args.end (c.args.start + 4 + length c.args.body.now) c.requires.after c.requires.within at (omega (arith, c.requires.room, long)) c.move_bytes.ensures)
