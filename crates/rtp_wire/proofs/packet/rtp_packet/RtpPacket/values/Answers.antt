use Rattle.rtp_wire.proofs.Common.{parts_of, OnErr-from}
use Rattle.rtp_wire.proofs.HeaderLemmas.{one_value}
use Rattle.rtp_wire.proofs.packet.rtp_packet.RtpPacket.values.Goals as goal

pub returns-in_err-read_values-clause-memory : goal.returns-in_err-read_values-clause-memory
returns-in_err-read_values-clause-memory g c = OnErr-from c.from_residual.result _ c.in_err-read_values.ensures.memory

pub returns-in_err-read_values-clause-succeeds : goal.returns-in_err-read_values-clause-succeeds
returns-in_err-read_values-clause-succeeds g c none = absurd (none c.in_err-read_values.ensures.memory)

pub returns-clause-found : goal.returns-clause-found
returns-clause-found g c = c.in_ok-read_values.ensures.found

pub returns-clause-only : goal.returns-clause-only
returns-clause-only g c values is =
    one_value (g.K.Kinds.slots c.args.exts.now) (parts_of c.args.self.now).block c.read_values.new.values values c.in_ok-read_values.ensures.found is
