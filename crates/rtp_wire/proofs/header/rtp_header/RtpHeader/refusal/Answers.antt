use Rattle.rtp_wire.proofs.Common.{arith, subst, IsFirstCause, parts_of}
use Rattle.rtp_wire.proofs.NoHeaderLemmas.{HasNoHeader-parted, block_header-there, told_of_packet}
use Rattle.rtp_wire.proofs.header.rtp_header.RtpHeader.refusal.Goals as goal

pub has_unknown_form-requires-clause-header : goal.has_unknown_form-requires-clause-header
has_unknown_form-requires-clause-header c = block_header-there c.args.buf.now (subst (IsFirstCause c.args.buf.now) c.in-Err-CutBlock.field-0-is c.in-Err-CutBlock.ensures.cause)

pub returns-in-Ok-clause-cause : goal.returns-in-Ok-clause-cause
returns-in-Ok-clause-cause c =
    (told_of_packet c.args.buf.now (parts_of c.in-Ok.packet) c.has_other_form.result c.then_some.result c.in-Ok.ensures.found c.has_other_form.ensures c.then_some.ensures).0

pub returns-in-Ok-clause-refused : goal.returns-in-Ok-clause-refused
returns-in-Ok-clause-refused c =
    (told_of_packet c.args.buf.now (parts_of c.in-Ok.packet) c.has_other_form.result c.then_some.result c.in-Ok.ensures.found c.has_other_form.ensures c.then_some.ensures).1

pub returns-in-Ok-clause-either : goal.returns-in-Ok-clause-either
returns-in-Ok-clause-either c = HasNoHeader-parted c.args.buf.now (omega (arith, c.type_inv.buf 1))
