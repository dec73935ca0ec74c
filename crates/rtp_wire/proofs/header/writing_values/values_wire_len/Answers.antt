use Rattle.rtp_wire.proofs.Common.{◌+◌, ◌*◌, Some, sym, ap, ◌∙◌, arith, length, with_values}
use Rattle.std.proofs.lemmas.Bool.{not-true, not-false}
use Rattle.rtp_wire.proofs.RoundTrip.{sources_within, length-wire_bytes}
use Rattle.rtp_wire.proofs.WrittenInFormLemmas.{IsLength, no_part, announced-clear, announced-set, length-with_block_of}
use Rattle.rtp_wire.proofs.header.writing_values.values_wire_len.Goals as goal

pub returns-then-not-fixed-clause-length : goal.returns-then-not-fixed-clause-length
returns-then-not-fixed-clause-length g c =
    let exts = g.K.Kinds.slots c.args.exts.now in
    let values = g.V.ElementValues.values c.args.values.now in
    omega (
      arith,
      c.fixed-fixed.ensures.csrc_count,
      length-wire_bytes exts (with_values (g.F.GetFields.header c.args.fields.now) values) (sources_within c.requires.sources c.fixed-fixed.ensures.slots),
      ap length (no_part exts (g.F.GetFields.header c.args.fields.now).has_extension values (announced-clear exts (g.F.GetFields.header c.args.fields.now).has_extension values (sym c.fixed-fixed.ensures.has_extension ∙ not-true _ c.if-not-fixed.true))),
    )

with_block : (g : _) (c : goal.After-block_len g) → IsLength (g.K.Kinds.slots c.args.exts.now) (with_values (g.F.GetFields.header c.args.fields.now) (g.V.ElementValues.values c.args.values.now)) (12 + 4 * c.fixed-fixed.result.csrc_count + c.block_len.result)
with_block g c =
    let values = g.V.ElementValues.values c.args.values.now in
    rw c.fixed-fixed.ensures.csrc_count (length-with_block_of c.of-ids.result (g.K.Kinds.slots c.args.exts.now)
    (with_values (g.F.GetFields.header c.args.fields.now) values) c.values_form.result c.block_len.result c.of-ids.ensures c.requires.sources c.fixed-fixed.ensures.slots
    (announced-set c.of-ids.result (g.F.GetFields.header c.args.fields.now).has_extension values c.values_form.result
    (sym c.fixed-fixed.ensures.has_extension ∙ not-false _ c.if-not-fixed.false) (ap Some c.values_form.ensures.form))
    c.block_len.ensures.length c.block_len.ensures.few)

pub returns-clause-length : goal.returns-clause-length
returns-clause-length g c = (with_block g c).is

pub returns-clause-words : goal.returns-clause-words
returns-clause-words g c = (with_block g c).bounds.words

pub returns-clause-by_map : goal.returns-clause-by_map
returns-clause-by_map g c = (with_block g c).bounds.by_map

pub returns-clause-small : goal.returns-clause-small
returns-clause-small g c = (with_block g c).bounds.small

pub returns-clause-bound : goal.returns-clause-bound
returns-clause-bound g c = (with_block g c).bounds.bound
