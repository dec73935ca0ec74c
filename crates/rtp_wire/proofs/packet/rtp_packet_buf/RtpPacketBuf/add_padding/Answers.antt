use Rattle.rtp_wire.proofs.Common.{◌<◌, List, ℕ, subst, arith, slice_index, same_Some}
use Rattle.rtp_wire.proofs.PacketLemmas.{one_packet}
use Rattle.rtp_wire.proofs.PacketBufLemmas.{IsKept-padded}
use Rattle.rtp_wire.proofs.AddedPaddingLemmas.{added, within-padded, IsPacket-padded, behind-all}
use Rattle.rtp_wire.proofs.packet.rtp_packet_buf.RtpPacketBuf.add_padding.Goals as goal

pub invariant_of-self-2 : goal.invariant_of-self-2
invariant_of-self-2 c =
    IsKept-padded c.args.self.now c.try_create_padding_packet.new.buf _ (omega (
      arith,
      c.try_create_padding_packet.auto.buf,
      within-padded c.args.self.now.buf.now c.try_create_padding_packet.new.buf c.args.self.now.len c.in_ok-count.count c.args.pad_len c.args.block_size
          (λ none. same_Some _ _ (c.in_ok-count.ensures.nothing none)) c.in_ok-count.ensures.same c.in_ok-count.ensures.length c.in_ok-count.ensures.written c.in_ok-count.ensures.room c.args.self.now.room,
    )) c.in_ok-count.count c.as_packet.ensures.is_packet
    (IsPacket-padded c.args.self.now.buf.now c.try_create_padding_packet.new.buf c.args.self.now.len c.in_ok-count.count c.args.pad_len c.args.block_size
    (λ none. same_Some _ _ (c.in_ok-count.ensures.nothing none)) c.in_ok-count.ensures.same c.in_ok-count.ensures.length c.in_ok-count.ensures.written c.in_ok-count.ensures.room c.args.self.now.room
    (subst (λ (bytes : List ℕ). slice_index bytes 1 < 256) c.as_packet.ensures.bytes (c.as_packet.result.bytes 1)) c.as_packet.ensures.is_packet)

pub returns-clause-parts : goal.returns-clause-parts
returns-clause-parts c =
    one_packet _ _ (IsPacket-padded c.args.self.now.buf.now c.try_create_padding_packet.new.buf c.args.self.now.len c.in_ok-count.count c.args.pad_len c.args.block_size
    (λ none. same_Some _ _ (c.in_ok-count.ensures.nothing none)) c.in_ok-count.ensures.same c.in_ok-count.ensures.length c.in_ok-count.ensures.written c.in_ok-count.ensures.room c.args.self.now.room
    (subst (λ (bytes : List ℕ). slice_index bytes 1 < 256) c.as_packet.ensures.bytes (c.as_packet.result.bytes 1)) c.as_packet.ensures.is_packet)

pub returns-clause-count : goal.returns-clause-count
returns-clause-count c = added c.args.pad_len c.args.block_size c.in_ok-count.count (λ none. same_Some _ _ (c.in_ok-count.ensures.nothing none)) c.in_ok-count.ensures.length

pub returns-clause-behind : goal.returns-clause-behind
returns-clause-behind c =
    behind-all c.args.self.now.buf.now c.try_create_padding_packet.new.buf c.args.self.now.len c.in_ok-count.count c.args.pad_len c.args.block_size
    (λ none. same_Some _ _ (c.in_ok-count.ensures.nothing none)) c.in_ok-count.ensures.same c.in_ok-count.ensures.length c.in_ok-count.ensures.written c.in_ok-count.ensures.room c.args.self.now.room c.as_packet.ensures.is_packet

pub returns-clause-same : goal.returns-clause-same
returns-clause-same c none = record {
  len_is = omega (arith, same_Some _ _ (c.in_ok-count.ensures.nothing none));
  bytes_are = c.in_ok-count.ensures.same none;
}
