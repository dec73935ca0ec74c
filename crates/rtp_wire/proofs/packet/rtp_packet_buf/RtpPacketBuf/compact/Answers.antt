use Rattle.rtp_wire.proofs.Common.{rules, ◌≤◌, length, take, drop, arith, Compacts, IsNoPacket}
use Rattle.rtp_wire.proofs.CompactLemmas.{Compacts-front}
use Rattle.rtp_wire.proofs.NotAPacketLemmas.{no_packet-refused}
use Rattle.rtp_wire.proofs.PacketBufLemmas.{held, IsKept-compact, shorter}
use Rattle.rtp_wire.proofs.packet.rtp_packet_buf.RtpPacketBuf.compact.Goals as goal

pub unwrap-len-requires : goal.unwrap-len-requires
unwrap-len-requires c =
    let packet = c.args.self.now in
    let layout = held packet in
    let refused : IsNoPacket (take packet.len packet.buf.now) → ⊥ = λ none. no_packet-refused _ layout.parts none layout.is_packet in
    search rules

pub overflow_sub-self-2 : goal.overflow_sub-self-2
overflow_sub-self-2 c =
    let packet = c.args.self.now in
    let is : Compacts (take packet.len packet.buf.now) c.compact.new.datagram c.unwrap-len.result = rw c.unwrap-len.ensures at c.compact.ensures.compacted in
    let within : c.unwrap-len.result ≤ length (take packet.len packet.buf.now) = rw c.unwrap-len.ensures at c.compact.ensures.within in
    shorter packet c.compact.new.datagram c.unwrap-len.result (omega (arith, within, c.compact.auto.datagram)) is

pub invariant_of-self : goal.invariant_of-self
invariant_of-self c =
    let packet = c.args.self.now in
    let is : Compacts (take packet.len packet.buf.now) c.compact.new.datagram c.unwrap-len.result = rw c.unwrap-len.ensures at c.compact.ensures.compacted in
    let within : c.unwrap-len.result ≤ length (take packet.len packet.buf.now) = rw c.unwrap-len.ensures at c.compact.ensures.within in
    IsKept-compact packet c.compact.new.datagram c.unwrap-len.result (omega (arith, within, c.compact.auto.datagram)) within is

pub returns-clause-compacted : goal.returns-clause-compacted
returns-clause-compacted c =
    let packet = c.args.self.now in
    let is : Compacts (take packet.len packet.buf.now) c.compact.new.datagram c.unwrap-len.result = rw c.unwrap-len.ensures at c.compact.ensures.compacted in
    let within : c.unwrap-len.result ≤ length (take packet.len packet.buf.now) = rw c.unwrap-len.ensures at c.compact.ensures.within in
    Compacts-front _ _ (drop packet.len packet.buf.now) _ (omega (arith, within, c.compact.auto.datagram)) is
