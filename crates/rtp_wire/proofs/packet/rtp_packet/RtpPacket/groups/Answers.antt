use Rattle.rtp_wire.proofs.Common.{arith, ap, ◌∙◌, ◌%◌, map, drop, length, slice_index, w32, from_be_bytes}
use Rattle.rtp_wire.specs.PartsAt.{parts_at}
use Rattle.rtp_wire.proofs.GroupLemmas.{length-first_chunks}
use Rattle.rtp_wire.proofs.PartsLemmas.{sources_within, first_chunks-sources}
use Rattle.rtp_wire.proofs.HeaderFound.{HasHeader-packet}
use Rattle.rtp_wire.proofs.packet.rtp_packet.RtpPacket.groups.Goals as goal

pub slice_bounds-as_chunks-end : goal.slice_bounds-as_chunks-end
slice_bounds-as_chunks-end c = omega (arith, c.sources_end.ensures, sources_within _ _ _ (HasHeader-packet c.args.self.now))

pub returns-clause-sources : goal.returns-clause-sources
unfolding parts_at
returns-clause-sources c =
    let bytes = c.args.self.now.datagram.now in
    ap (map (from_be_bytes w32))
    (c.as_chunks.ensures.front ∙ first_chunks-sources bytes c.sources_end.result c.sources_end.ensures
    (omega (arith, c.sources_end.ensures, sources_within _ _ _ (HasHeader-packet c.args.self.now))))

pub returns-clause-few : goal.returns-clause-few
returns-clause-few c =
    let bytes = c.args.self.now.datagram.now in
    let within = sources_within _ _ _ (HasHeader-packet c.args.self.now) in
    omega (arith, ap length (c.as_chunks.ensures.front ∙ first_chunks-sources bytes c.sources_end.result c.sources_end.ensures (omega (arith, c.sources_end.ensures, within))), length-first_chunks (slice_index bytes 0 % 16) (drop 12 bytes))
