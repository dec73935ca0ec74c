use Rattle.rtp_wire.proofs.Common.{rules, arith, SetsElement}
use Rattle.rtp_wire.proofs.PacketBufLemmas.{moved, HasLayout-stays}
use Rattle.rtp_wire.proofs.PacketChanges.{stays-in_body}
use Rattle.rtp_wire.proofs.packet.in_place.set_element.Goals as goal

pub returns-clause-set : goal.returns-clause-set
returns-clause-set c =
    moved (SetsElement c.args.id c.args.data.now c.set_element.result) c.new-packet.result.datagram.now c.set_element.new.self.datagram.now _ _ c.new-packet.ensures.same_bytes (search rules) (record {
      set = c.set_element.ensures.set;
      written = c.set_element.ensures.written;
      unchanged = c.set_element.ensures.unchanged;
      only_body = c.set_element.ensures.bytes;
      answer_is = c.set_element.ensures.answer;
      other_values = c.set_element.ensures.other_values;
      values = c.set_element.ensures.values;
    })

pub returns-clause-held : goal.returns-clause-held
returns-clause-held c =
    HasLayout-stays c.new-packet.result.datagram.now c.set_element.new.self.datagram.now _ _ _ _ c.new-packet.ensures.same_bytes (search rules) c.requires
    (stays-in_body _ _ c.set_element.ensures.bytes) (omega (arith, c.type_inv.datagram 1))
