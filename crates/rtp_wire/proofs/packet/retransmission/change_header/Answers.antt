use Rattle.rtp_wire.proofs.Common.{arith, rules, ap, refl, new_id, PacketParts}
use Rattle.rtp_wire.proofs.RetransmissionHeaders.{parts-of_bytes, IsChangedHeader-made, KeepsBlockHeader-made, carried-told, high-told, bytes_before}
use Rattle.rtp_wire.proofs.packet.retransmission.change_header.Goals as goal

pub returns-then-not-renumber-clause-high : goal.returns-then-not-renumber-clause-high
returns-then-not-renumber-clause-high c parts is =
    high-told (new_id c.args.ids.now) _ _ c.args.header.now parts (bytes_before _ _ c.type_inv.header (search rules)) is
    (ap (λ (p : PacketParts). p.block) (parts-of_bytes c.args.header.now _ parts c.new-packet.ensures.same_bytes is)) c.if-not-renumber.ensures.answer refl

pub returns-clause-changed : goal.returns-clause-changed
returns-clause-changed c parts is =
    IsChangedHeader-made (new_id c.args.ids.now) c.args.fields.now c.args.header.now parts c.new-packet.result c.renumber.new.self c.set_padding.new.self c.set_fields.new.self _
    is c.new-packet.ensures.same_bytes c.if-not-renumber.ensures.renumbered c.if-not-renumber.ensures.without_block c.set_padding.ensures.parts c.set_fields.ensures.parts
    (omega (arith, c.type_inv.header 1)) (search rules)

pub returns-clause-block_header : goal.returns-clause-block_header
returns-clause-block_header c =
    KeepsBlockHeader-made c.args.fields.now c.args.header.now _ _ _ c.set_fields.new.self.datagram.now _ c.new-packet.ensures.same_bytes
    c.if-not-renumber.ensures.bytes c.set_padding.ensures.bytes c.set_fields.ensures.bytes (search rules)

pub returns-clause-carried : goal.returns-clause-carried
returns-clause-carried c parts is =
    carried-told (new_id c.args.ids.now) _ _ parts
    (ap (λ (p : PacketParts). p.block) (parts-of_bytes c.args.header.now _ parts c.new-packet.ensures.same_bytes is)) c.if-not-renumber.ensures.answer refl
