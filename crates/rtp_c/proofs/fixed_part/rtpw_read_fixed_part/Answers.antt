use Rattle.rtp_c.proofs.Common.{◌≡◌, ◌≢◌, ◌↔◌, ℤ, rules, w32, of_z, ap, IsNoPacket, IsViewOf, ok}
use Rattle.rtp_c.proofs.StatusLemmas.{passed_on}
use Rattle.rtp_c.proofs.PacketReadLemmas.{parts_told, refused_told}
use Rattle.rtp_c.proofs.fixed_part.rtpw_read_fixed_part.Goals as goal

pub returns-then-status-eq-OK-clause-parts : goal.returns-then-status-eq-OK-clause-parts
returns-then-status-eq-OK-clause-parts c parts is =
    let call = c.read_packet-status in
    let told = parts_told c.args.datagram.now call.result _ call.new.packet parts call.ensures is in (
      passed_on call.result (search rules) (λ (z : ℤ). z ≡ ok) told.0,
      record { view = call.new.packet; is_view = told.1; are_of = c.put_parts.ensures },
    )

pub returns-then-status-eq-OK-clause-refused : goal.returns-then-status-eq-OK-clause-refused
returns-then-status-eq-OK-clause-refused c =
    let call = c.read_packet-status in
    passed_on call.result (search rules) (λ (z : ℤ). (z ≢ ok) ↔ IsNoPacket c.args.datagram.now)
    (refused_told c.args.datagram.now call.result _ call.new.packet call.ensures)

pub returns-else-status-eq-OK-clause-parts : goal.returns-else-status-eq-OK-clause-parts
returns-else-status-eq-OK-clause-parts c parts is =
    let call = c.read_packet-status in
    let told = parts_told c.args.datagram.now call.result _ call.new.packet parts call.ensures is in
    absurd (c.if-status-eq-OK.false (ap (of_z w32) told.0))
