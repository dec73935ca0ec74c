use Rattle.rtp_wire.proofs.Common.{subst, arith, PacketParts, IsWithoutPadding, parts_in}
use Rattle.rtp_wire.proofs.PaddingChanges.{HasUnpadded-cleared, front_within}
use Rattle.rtp_wire.proofs.packet.rtp_packet_mut.RtpPacketMut.remove_padding.Goals as goal

-- the payload without its padding is that of the packet in the buffer
without : (c : goal.After-set_padding) → IsWithoutPadding (parts_in c.args.self.now).has_padding (parts_in c.args.self.now).payload c.in_ok-payload_len.field-0.now
without c =
    subst (λ (parts : PacketParts). IsWithoutPadding parts.has_padding parts.payload c.in_ok-payload_len.field-0.now) c.as_packet.ensures.parts c.in_ok-payload_len.ensures.found

pub returns-clause-packet : goal.returns-clause-packet
returns-clause-packet c =
    HasUnpadded-cleared c.args.self.now c.set_padding.new.self c.in_ok-payload_len.field-0.now c.as_packet.ensures.is_packet c.set_padding.ensures.bytes
    c.set_padding.ensures.parts (without c)

pub returns-clause-within : goal.returns-clause-within
returns-clause-within c =
    let found = front_within c.args.self.now c.in_ok-payload_len.field-0.now (without c) in
    omega (arith, found.2)
