use Rattle.rtp_wire.proofs.Common.{rules, arith, RenumbersElements}
use Rattle.rtp_wire.proofs.PacketBufLemmas.{moved, HasLayout-stays}
use Rattle.rtp_wire.proofs.PacketChanges.{stays-in_body}
use Rattle.rtp_wire.proofs.packet.in_place.renumber.Goals as goal

pub returns-clause-renumbered : goal.returns-clause-renumbered
returns-clause-renumbered c =
    moved (RenumbersElements c.args.ids.now c.renumber.result) c.new-packet.result.datagram.now c.renumber.new.self.datagram.now _ _ c.new-packet.ensures.same_bytes (search rules) (record {
      renumbers = c.renumber.ensures.renumbered;
      unchanged = c.renumber.ensures.unchanged;
      only_body = c.renumber.ensures.bytes;
      without_block = c.renumber.ensures.without_block;
      answer_is = c.renumber.ensures.answer;
      elements_are = c.renumber.ensures.elements;
      values = c.renumber.ensures.values;
    })

pub returns-clause-held : goal.returns-clause-held
returns-clause-held c =
    HasLayout-stays c.new-packet.result.datagram.now c.renumber.new.self.datagram.now _ _ _ _ c.new-packet.ensures.same_bytes (search rules) c.requires
    (stays-in_body _ _ c.renumber.ensures.bytes) (omega (arith, c.type_inv.datagram 1))
