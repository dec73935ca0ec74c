use Rattle.rtp_wire.proofs.Common.{rules, arith, RemovesElement}
use Rattle.rtp_wire.proofs.PacketBufLemmas.{moved, HasLayout-stays}
use Rattle.rtp_wire.proofs.PacketChanges.{stays-in_body}
use Rattle.rtp_wire.proofs.packet.in_place.remove_element.Goals as goal

pub returns-clause-removed : goal.returns-clause-removed
returns-clause-removed c =
    moved (RemovesElement c.args.id c.remove_element.result) c.new-packet.result.datagram.now c.remove_element.new.self.datagram.now _ _ c.new-packet.ensures.same_bytes (search rules) (record {
      removed = c.remove_element.ensures.removed;
      unchanged = c.remove_element.ensures.unchanged;
      only_body = c.remove_element.ensures.bytes;
      answer_is = c.remove_element.ensures.answer;
      elements_are = c.remove_element.ensures.elements;
    })

pub returns-clause-held : goal.returns-clause-held
returns-clause-held c =
    HasLayout-stays c.new-packet.result.datagram.now c.remove_element.new.self.datagram.now _ _ _ _ c.new-packet.ensures.same_bytes (search rules) c.requires
    (stays-in_body _ _ c.remove_element.ensures.bytes) (omega (arith, c.type_inv.datagram 1))
