use Rattle.rtp_wire.proofs.Common.{parts_of, OnErr-from}
use Rattle.rtp_wire.proofs.HeaderLemmas.{one_header-parts}
use Rattle.rtp_wire.proofs.packet.rtp_packet.RtpPacket.header.Goals as goal

pub returns-in_err-put_header-clause-memory : goal.returns-in_err-put_header-clause-memory
returns-in_err-put_header-clause-memory g c = OnErr-from c.from_residual.result _ c.in_err-put_header.ensures.memory

pub returns-in_err-put_header-clause-succeeds : goal.returns-in_err-put_header-clause-succeeds
returns-in_err-put_header-clause-succeeds g c none = absurd (none c.in_err-put_header.ensures.memory)

pub returns-clause-only : goal.returns-clause-only
returns-clause-only g c header is =
    one_header-parts (g.K.Kinds.slots c.args.exts.now) (parts_of c.args.self.now) _ header c.in_ok-put_header.ensures.found is
