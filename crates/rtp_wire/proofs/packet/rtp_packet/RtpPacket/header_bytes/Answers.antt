use Rattle.rtp_wire.proofs.Common.{arith, refl, sym, ap, ◌∙◌, [], ◌++◌, ℕ, take, drop, length-drop, take-append-drop, parts_of}
use Rattle.rtp_wire.specs.PartsAt.{header_end, parts_at}
use Rattle.rtp_wire.proofs.PartsLemmas.{IsPacket-found}
use Rattle.rtp_wire.proofs.PaddingChanges.{IsPacket-front, IsPacket-longer}
use Rattle.rtp_wire.proofs.packet.rtp_packet.RtpPacket.header_bytes.Goals as goal

pub returns-clause-front : goal.returns-clause-front
unfolding parts_at
returns-clause-front c =
    let packet = c.args.self.now in
    sym (take-append-drop packet.header_len packet.datagram.now)
    ∙ ap (λ (k : ℕ). take packet.header_len packet.datagram.now ++ drop k packet.datagram.now) packet.ends

pub returns-clause-alone : goal.returns-clause-alone
unfolding parts_at
returns-clause-alone c =
    let packet = c.args.self.now in
    let within = packet.within in
    let ends = packet.ends in
    IsPacket-front packet.datagram.now (parts_of packet) _ (parts_of packet).payload packet.header_len (IsPacket-found packet) refl
    (omega (arith, length-drop (header_end packet.datagram.now) packet.datagram.now))

pub returns-clause-sent : goal.returns-clause-sent
returns-clause-sent c header parts is = IsPacket-longer header (parts_of c.args.self.now).payload (record parts { payload = [] }) is
