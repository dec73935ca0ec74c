use Rattle.rtp_wire.proofs.HeaderFound.{HasHeader-packet_mut}
use Rattle.rtp_wire.proofs.PaddingChanges.{HasHeader-padding, parts-padding, only-padding, padding-put, padding-same}
use Rattle.rtp_wire.proofs.packet.rtp_packet_mut.RtpPacketMut.set_padding.Goals as goal

pub invariant_of-self : goal.invariant_of-self
invariant_of-self c =
    let old = c.args.self.now in
    HasHeader-padding old.datagram.now _ c.args.has_padding
    (only-padding old.datagram.now _ _ c.args.has_padding c.put.ensures.written c.flag.ensures old.version old.fixed)
    (padding-put old.datagram.now _ _ c.args.has_padding c.put.ensures.written c.flag.ensures old.version old.fixed)
    old.header_len old.form (HasHeader-packet_mut old)

pub returns-clause-parts : goal.returns-clause-parts
returns-clause-parts c =
    let old = c.args.self.now in
    parts-padding old.datagram.now _ c.args.has_padding
    (only-padding old.datagram.now _ _ c.args.has_padding c.put.ensures.written c.flag.ensures old.version old.fixed)
    (padding-put old.datagram.now _ _ c.args.has_padding c.put.ensures.written c.flag.ensures old.version old.fixed)

pub returns-clause-bytes : goal.returns-clause-bytes
returns-clause-bytes c =
    let old = c.args.self.now in
    only-padding old.datagram.now _ _ c.args.has_padding c.put.ensures.written c.flag.ensures old.version old.fixed

pub returns-clause-same : goal.returns-clause-same
returns-clause-same c same =
    let old = c.args.self.now in
    padding-same old.datagram.now _ _ c.args.has_padding c.put.ensures.written c.flag.ensures old.version old.fixed same
