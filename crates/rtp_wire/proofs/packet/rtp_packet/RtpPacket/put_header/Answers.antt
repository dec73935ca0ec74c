use Rattle.rtp_wire.proofs.Common.{ap, on_ok_weaker, on_err_weaker, RtpHeader, parts_of}
use Rattle.rtp_wire.proofs.HeaderLemmas.{IsHeaderOf-read}
use Rattle.rtp_wire.proofs.packet.rtp_packet.RtpPacket.put_header.Goals as goal

pub returns-clause-found : goal.returns-clause-found
returns-clause-found g c =
    on_ok_weaker c.read_values.result (λ has. IsHeaderOf-read (g.K.Kinds.slots c.args.exts.now) (parts_of c.args.self.now) _ c.read_values.new.values _ c.put_fields.ensures has) c.read_values.ensures.found

pub returns-clause-stopped : goal.returns-clause-stopped
returns-clause-stopped g c =
    on_err_weaker c.read_values.result (λ are. record { fields_are = ap (λ (h : RtpHeader). record h { ext_vals = c.read_values.new.values }) c.put_fields.ensures; values_are = are }) c.read_values.ensures.stopped
