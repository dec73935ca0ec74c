use Rattle.std.proofs.Common.{◌↔◌, IsTrue, IfSome, All, rules, arith, sym, subst}
use Rattle.rtp_ext.specs.ElementsInPlace.{CanRenumber}
use Rattle.rtp_ext.specs.NewIds.{new_id}
use Rattle.rtp_ext.proofs.ElementLemmasOfBodies.{AreBytes}
use Rattle.rtp_wire.specs.Packet.{PacketParts}
use Rattle.rtp_wire.specs.PacketElements.{AreElementsOf}
use Rattle.rtp_wire.proofs.RetransmissionHeaders.{parts-of_bytes}
use Rattle.rtp_route.proofs.ByCallsLemmas.{renumbered-in, long-in}
use Rattle.rtp_route.proofs.in_place.renumber.Goals as goal

pub returns-clause-renumbered : goal.returns-clause-renumbered
returns-clause-renumbered c parts elements is are =
    let same = parts-of_bytes c.args.header.now c.new-packet.result.datagram.now parts c.new-packet.ensures.same_bytes is in
    renumbered-in (new_id c.args.ids.now) c.renumber.result c.new-packet.result c.renumber.new.self c.args.header.now _ parts elements (omega (arith, c.type_inv.header 1))
    c.new-packet.ensures.same_bytes (search rules) is c.renumber.ensures.renumbered c.renumber.ensures.bytes c.renumber.ensures.without_block
    (c.renumber.ensures.elements elements (subst (λ (p : PacketParts). AreElementsOf p.block elements) (sym same) are))

pub returns-clause-carried : goal.returns-clause-carried
returns-clause-carried c parts elements is are =
    let same = parts-of_bytes c.args.header.now c.new-packet.result.datagram.now parts c.new-packet.ensures.same_bytes is in
    subst (λ (p : PacketParts). IsTrue c.renumber.result ↔ IfSome p.block (λ block. All (CanRenumber block.0 (new_id c.args.ids.now)) elements)) same
    (c.renumber.ensures.answer elements (subst (λ (p : PacketParts). AreElementsOf p.block elements) (sym same) are))

pub returns-clause-long : goal.returns-clause-long
returns-clause-long c =
    let held = c.requires in
    let same = parts-of_bytes c.args.header.now c.new-packet.result.datagram.now held.parts c.new-packet.ensures.same_bytes held.is_packet in
    let all : AreBytes c.renumber.new.self.datagram.now = λ k. search rules in
    long-in c.renumber.result c.args.header.now c.new-packet.result.datagram.now c.renumber.new.self.datagram.now (new_id c.args.ids.now) held.parts
    all c.new-packet.ensures.same_bytes c.renumber.ensures.unchanged held.is_packet
    (λ elements are.
    subst (λ (p : PacketParts). IsTrue c.renumber.result ↔ IfSome p.block (λ block. All (CanRenumber block.0 (new_id c.args.ids.now)) elements)) same
    (c.renumber.ensures.answer elements (subst (λ (p : PacketParts). AreElementsOf p.block elements) (sym same) are)))
