use Rattle.rtp_wire.proofs.Common.{◌≡◌, ◌+◌, ◌*◌, ◌%◌, ◌<◌, ◌≤◌, length, refl, ap, ◌∙◌, arith, slice_index, w32, to_be_bytes, and_mask, overwritten, sources_end, parts_at, false≢true}
use Rattle.rtp_wire.proofs.PacketParts.{parts-source, sources_len}
use Rattle.rtp_wire.proofs.HeaderFound.{HasHeader-packet_mut}
use Rattle.rtp_wire.proofs.PartsLemmas.{sources_within}
use Rattle.rtp_wire.proofs.BytesBetween.{ChangesOnly-nothing}
use Rattle.rtp_wire.proofs.PacketChanges.{HasHeader-put, only-put}
use Rattle.rtp_wire.proofs.packet.rtp_packet_mut.RtpPacketMut.set_csrc.Goals as goal
use Rattle.rtp_wire.proofs.packet.rtp_packet_mut.RtpPacketMut.set_csrc.Goals.{After-put}

pub returns-then-index-from-clause-found : goal.returns-then-index-from-clause-found
returns-then-index-from-clause-found c =
    let bytes = c.args.self.now.datagram.now in
    (λ wrong. absurd (false≢true wrong), λ within. absurd (omega (arith, within, sources_len bytes, c.if-index-from.true, c.from.ensures, and_mask (slice_index bytes 0) 4)))

-- the place of the source is in the CSRC list
in_list : (c : goal.After-put-arg-2-1) → c.args.index < slice_index c.args.self.now.datagram.now 0 % 16
in_list c = omega (arith, c.if-index-from.false, c.from.ensures, and_mask (slice_index c.args.self.now.datagram.now 0) 4)

fits : (c : goal.After-put-arg-2-1) → sources_end c.args.self.now.datagram.now ≤ length c.args.self.now.datagram.now
fits c = sources_within _ _ _ (HasHeader-packet_mut c.args.self.now)

pub put-requires : goal.put-requires
put-requires c = let four : length c.to_be_bytes.result ≡ 4 = ap length c.to_be_bytes.ensures in omega (arith, four, in_list c, fits c)

put_is : (c : After-put) → c.put.new.buf ≡ overwritten c.args.self.now.datagram.now (12 + 4 * c.args.index) (to_be_bytes w32 c.args.source)
put_is c = c.put.ensures.written ∙ ap (overwritten c.args.self.now.datagram.now (12 + 4 * c.args.index)) c.to_be_bytes.ensures

pub invariant_of-self : goal.invariant_of-self
invariant_of-self c =
    let old = c.args.self.now in
    let within = in_list c.before in
    HasHeader-put old.datagram.now c.put.new.buf (to_be_bytes w32 c.args.source) (12 + 4 * c.args.index) old.header_len old.form (put_is c) (omega arith) (omega arith)
    (HasHeader-packet_mut old)

pub returns-clause-found : goal.returns-clause-found
returns-clause-found c =
    let bytes = c.args.self.now.datagram.now in
    (λ _. omega (arith, sources_len bytes, c.if-index-from.false, c.from.ensures, and_mask (slice_index bytes 0) 4), λ _. refl)

pub returns-clause-parts : goal.returns-clause-parts
returns-clause-parts c _ =
    let bytes = c.args.self.now.datagram.now in
    ap parts_at (put_is c.before) ∙ parts-source bytes c.args.index c.args.source (in_list c.before.before) (omega (arith, c.ranges.source.fits)) (fits c.before.before)

pub returns-then-index-from-clause-bytes : goal.returns-then-index-from-clause-bytes
returns-then-index-from-clause-bytes c = ChangesOnly-nothing (12 + 4 * c.args.index) (16 + 4 * c.args.index) c.args.self.now.datagram.now

pub returns-clause-bytes : goal.returns-clause-bytes
returns-clause-bytes c =
    only-put c.args.self.now.datagram.now _ (to_be_bytes w32 c.args.source) (12 + 4 * c.args.index) (16 + 4 * c.args.index) (put_is c.before) (omega arith)
    (omega (arith, in_list c.before.before, fits c.before.before))
