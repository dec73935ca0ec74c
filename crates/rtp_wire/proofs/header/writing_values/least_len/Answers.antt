use Rattle.rtp_wire.proofs.Common.{sym, ◌∙◌, arith, with_values}
use Rattle.rtp_wire.proofs.RoundTrip.{length-wire_bytes}
use Rattle.rtp_wire.proofs.WrittenInFormLemmas.{least_part}
use Rattle.rtp_wire.proofs.header.writing_values.least_len.Goals as goal

pub returns-then-fixed-clause-least : goal.returns-then-fixed-clause-least
returns-then-fixed-clause-least g c exts values =
    let header = g.F.GetFields.header c.args.fields.now in
    omega (
      arith,
      c.fixed-fixed.ensures.csrc_count,
      length-wire_bytes exts (with_values header values) (omega (arith, c.requires, c.fixed-fixed.ensures.slots)),
      least_part exts header.has_extension values (sym c.fixed-fixed.ensures.has_extension ∙ c.if-fixed.true),
    )

pub returns-else-fixed-clause-least : goal.returns-else-fixed-clause-least
returns-else-fixed-clause-least g c exts values =
    omega (
      arith,
      c.fixed-fixed.ensures.csrc_count,
      length-wire_bytes exts (with_values (g.F.GetFields.header c.args.fields.now) values) (omega (arith, c.requires, c.fixed-fixed.ensures.slots)),
    )
