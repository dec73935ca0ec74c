use Rattle.rtp_wire.proofs.Common.{rules, ap, Some, parts_of, OnErr-from}
use Rattle.rtp_wire.proofs.HeaderLemmas.{no_header, IsRead, IsRead-packet}
use Rattle.rtp_wire.proofs.header.rtp_header.RtpHeader.parse.Goals as goal
use Rattle.rtp_wire.proofs.header.rtp_header.RtpHeader.parse.Goals.{in_default-via-in-Ok+else-read, in_default-via-in_default}

pub returns-in_default-clause-only : goal.returns-in_default-clause-only
returns-in_default-clause-only g c header wire = elim c.in_default.branch [
  | in_default-via-in-Ok+else-read w ↦ absurd (no_header (g.K.Kinds.slots c.args.exts.now) c.args.buf.now header (c.read.ensures.none.0 (search rules)) wire)
  | in_default-via-in_default w ↦ absurd (no_header (g.K.Kinds.slots c.args.exts.now) c.args.buf.now header (c.read.ensures.none.0 (search rules)) wire)
]

pub returns-in_err-put_header-clause-memory : goal.returns-in_err-put_header-clause-memory
returns-in_err-put_header-clause-memory g c = OnErr-from c.from_residual.result _ (record {
  parts = parts_of c.in-Ok-default-true.packet;
  is_packet = c.in-Ok-default-true.ensures.found;
  has_allocation = c.in_err-put_header.ensures.memory;
})

pub returns-in_err-put_header-clause-succeeds : goal.returns-in_err-put_header-clause-succeeds
returns-in_err-put_header-clause-succeeds g c none = absurd (none (record {
  parts = parts_of c.in-Ok-default-true.packet;
  is_packet = c.in-Ok-default-true.ensures.found;
  has_allocation = c.in_err-put_header.ensures.memory;
}))

-- the header is that of the bytes
read : (g : _) (c : goal.In_ok-put_header g) → IsRead (g.K.Kinds.slots c.args.exts.now) c.args.buf.now c.put_header.new.header
read g c =
    IsRead-packet (g.K.Kinds.slots c.args.exts.now) c.args.buf.now (parts_of c.in-Ok-default-true.packet) _ c.in-Ok-default-true.ensures.found
    (c.in-Ok-default-true.ensures.header c.in-Ok-default-true.field-0-1-test) c.in_ok-put_header.ensures.found

pub returns-clause-found : goal.returns-clause-found
returns-clause-found g c = (read g c).wire

pub returns-clause-only : goal.returns-clause-only
returns-clause-only g c header is = ap Some ((read g c).only header is)

pub returns-clause-within : goal.returns-clause-within
returns-clause-within g c = (read g c).within
