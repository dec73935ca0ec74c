use Rattle.rtp_wire.proofs.Common.{rules, RemovesPadding}
use Rattle.rtp_wire.proofs.PacketBufLemmas.{moved}
use Rattle.rtp_wire.proofs.packet.in_place.remove_padding.Goals as goal

pub returns : goal.returns
returns c =
    moved (RemovesPadding c.remove_padding.result) c.new-packet.result.datagram.now c.remove_padding.new.self.datagram.now _ _ c.new-packet.ensures.same_bytes (search rules)
    (record {
      unpadded = c.remove_padding.ensures.packet;
      within = c.remove_padding.ensures.within;
      only_first = c.remove_padding.ensures.bytes;
      refused = c.remove_padding.ensures.refused;
      unchanged = c.remove_padding.ensures.unchanged;
    })
