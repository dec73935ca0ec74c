use Rattle.rtp_wire.proofs.Common.{sym, ◌∙◌, slice_index}
use Rattle.rtp_wire.specs.PartsAt.{parts_at}
use Rattle.rtp_wire.proofs.FlagLemmas.{bit-once, bit-mask}
use Rattle.rtp_wire.proofs.PacketLemmas.{bit-is_set}
use Rattle.rtp_wire.proofs.packet.rtp_packet.RtpPacket.has_padding.Goals as goal

pub returns : goal.returns
unfolding parts_at
returns c =
    let first = slice_index c.args.self.now.datagram.now 0 in
    bit-once _ _ (bit-mask first 5 ∙ sym (bit-is_set first 32))
