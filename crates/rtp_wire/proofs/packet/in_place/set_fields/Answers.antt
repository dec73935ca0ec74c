use Rattle.rtp_wire.proofs.Common.{rules, arith, SetsFields}
use Rattle.rtp_wire.proofs.BytesBetween.{in_fixed_part}
use Rattle.rtp_wire.proofs.PacketBufLemmas.{moved, HasLayout-stays}
use Rattle.rtp_wire.proofs.PacketChanges.{stays-before_block}
use Rattle.rtp_wire.proofs.packet.in_place.set_fields.Goals as goal

pub returns-clause-set : goal.returns-clause-set
returns-clause-set c =
    moved (SetsFields c.args.fields.now) c.new-packet.result.datagram.now c.set_fields.new.self.datagram.now _ _ c.new-packet.ensures.same_bytes (search rules) (record {
      parts_are = c.set_fields.ensures.parts;
      bytes_are = c.set_fields.ensures.bytes;
    })

pub returns-clause-held : goal.returns-clause-held
returns-clause-held c =
    HasLayout-stays c.new-packet.result.datagram.now c.set_fields.new.self.datagram.now _ _ _ _ c.new-packet.ensures.same_bytes (search rules) c.requires.held
    (stays-before_block 1 12 _ _ (c.set_fields.ensures.bytes 1 12 (in_fixed_part c.args.fields.now)) (omega arith) (omega arith)) (omega (arith, c.type_inv.datagram 1))
