use Rattle.rtp_c.proofs.Common.{◌≡◌, ◌≢◌, ◌↔◌, ℤ, rules, IsNoPacket, IsViewOf, ok}
use Rattle.rtp_c.proofs.StatusLemmas.{passed_on}
use Rattle.rtp_c.proofs.PacketReadLemmas.{parts_told, refused_told}
use Rattle.rtp_c.proofs.packet.rtpw_packet_parse.Goals as goal

pub returns-clause-parts : goal.returns-clause-parts
returns-clause-parts c parts is =
    let call = c.read_packet in
    passed_on call.result (search rules) (λ (z : ℤ). (z ≡ ok) × IsViewOf c.args.datagram.now parts call.new.packet)
    (parts_told c.args.datagram.now call.result c.args.packet.now call.new.packet parts call.ensures is)

pub returns-clause-refused : goal.returns-clause-refused
returns-clause-refused c =
    let call = c.read_packet in
    passed_on call.result (search rules) (λ (z : ℤ). (z ≢ ok) ↔ IsNoPacket c.args.datagram.now)
    (refused_told c.args.datagram.now call.result c.args.packet.now call.new.packet call.ensures)
