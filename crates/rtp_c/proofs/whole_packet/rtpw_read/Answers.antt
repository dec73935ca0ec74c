use Rattle.rtp_c.proofs.Common.{◌≡◌, ◌↔◌, ℤ, rules, ok}
use Rattle.rtp_wire.specs.NotAHeader.{IsNoPacket}
use Rattle.rtp_wire.specs.Rtcp.{IsRtcp}
use Rattle.rtp_c.specs.Status.{rtcp, IsCauseStatus}
use Rattle.rtp_c.specs.WholePacket.{IsWhole}
use Rattle.rtp_c.proofs.StatusLemmas.{passed_on}
use Rattle.rtp_c.proofs.WholePacketLemmas.{rtcp_only, whole_told, cause_told}
use Rattle.rtp_c.proofs.whole_packet.rtpw_read.Goals as goal

pub returns-clause-rtcp : goal.returns-clause-rtcp
returns-clause-rtcp c =
    let call = c.read_whole in
    passed_on call.result (search rules) (λ (z : ℤ). (z ≡ rtcp) ↔ IsRtcp c.args.datagram.now)
    (rtcp_only c.args.map.now.kind c.args.datagram.now call.result c.args.packet.now call.new.packet call.ensures)

pub returns-clause-parts : goal.returns-clause-parts
returns-clause-parts c parts is other =
    let call = c.read_whole in
    passed_on call.result (search rules) (λ (z : ℤ). (z ≡ ok) × IsWhole c.args.map.now.kind c.args.datagram.now parts call.new.packet)
    (whole_told c.args.map.now.kind c.args.datagram.now call.result c.args.packet.now call.new.packet parts call.ensures is other)

pub returns-clause-refused : goal.returns-clause-refused
returns-clause-refused c =
    let call = c.read_whole in
    passed_on call.result (search rules) (λ (z : ℤ). IsCauseStatus c.args.datagram.now z ↔ (IsNoPacket c.args.datagram.now × (IsRtcp c.args.datagram.now → ⊥)))
    (cause_told c.args.map.now.kind c.args.datagram.now call.result c.args.packet.now call.new.packet call.ensures)
