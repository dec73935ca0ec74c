use Rattle.rtp_wire.proofs.Common.{None, Some, take, List, ℕ, sym, subst, arith, RemovesPadding, HasLayout}
use Rattle.rtp_wire.proofs.PacketBufLemmas.{held, IsKept-front, IsKept-unpadded, first_changed}
use Rattle.rtp_wire.proofs.packet.rtp_packet_buf.RtpPacketBuf.remove_padding.Goals as goal

pub remove_padding-requires : goal.remove_padding-requires
remove_padding-requires c = held c.args.self.now

pub invariant_of-self : goal.invariant_of-self
invariant_of-self c =
    let packet = c.args.self.now in
    let is : RemovesPadding None (take packet.len packet.buf.now) c.remove_padding.new.datagram = rw c.in_default.is at c.remove_padding.ensures in
    IsKept-front packet c.remove_padding.new.datagram c.remove_padding.auto.datagram
    (subst (λ (bytes : List ℕ). HasLayout bytes packet.header_len packet.form) (sym is.unchanged) (held packet))

pub invariant_of-self-2 : goal.invariant_of-self-2
invariant_of-self-2 c =
    let is : RemovesPadding (Some c.in-Some.len) (take c.args.self.now.len c.args.self.now.buf.now) c.remove_padding.new.datagram = rw c.in-Some.is at c.remove_padding.ensures in
    IsKept-unpadded c.args.self.now c.remove_padding.new.datagram c.in-Some.len (omega (arith, is.within, is.only_first.length_is)) is.unpadded

pub returns-clause-bytes : goal.returns-clause-bytes
returns-clause-bytes c =
    let is : RemovesPadding (Some c.in-Some.len) (take c.args.self.now.len c.args.self.now.buf.now) c.remove_padding.new.datagram = rw c.in-Some.is at c.remove_padding.ensures in
    first_changed c.args.self.now c.remove_padding.new.datagram is.only_first
