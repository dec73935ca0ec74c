use Rattle.rtp_wire.proofs.Common.{Bool, Some, ◌≡◌, ◌≤◌, ◌<◌, ◌+◌, ◌*◌, refl, sym, ap, ◌∙◌, arith, length, Slots, RtpHeader, ExtensionValues, extension_bytes, wire_bytes, block_bytes_in, with_values}
use Rattle.std.proofs.Common.{lt_of_not-le, true≢false, ◌-◌}
use Rattle.std.proofs.lemmas.Bool.{not-true, not-false}
use Rattle.rtp_wire.proofs.RoundTrip.{sources_within, length-wire_bytes}
use Rattle.rtp_wire.proofs.WrittenInFormLemmas.{announced-set, a_part}
use Rattle.rtp_wire.specs.Written.{CannotBeWritten}
use Rattle.rtp_wire.proofs.header.writing_values.try_write_values.Goals as goal
use Rattle.rtp_wire.proofs.header.writing_values.try_write_values.Goals.{After-block_fits}

whole : (exts : Slots) (h : RtpHeader) (values : ExtensionValues) → h.csrc_count ≤ 15 → length h.csrc ≡ 15
    → length (wire_bytes exts (with_values h values)) ≡ 12 + 4 * h.csrc_count + length (extension_bytes exts h.has_extension values)
whole exts h values few slots = length-wire_bytes exts (with_values h values) (sources_within few slots)

pub write_in-requires-clause-room : goal.write_in-requires-clause-room
write_in-requires-clause-room g c =
    let values = g.V.ElementValues.values c.args.values.now in
    let all = whole c.of.result (g.F.GetFields.header c.args.fields.now) values (omega (arith, c.fixed-fixed.ensures.csrc_count, c.if-fixed-gt15.false)) c.fixed-fixed.ensures.slots in
    let none = ap (λ (has : Bool). length (extension_bytes c.of.result has values)) (sym c.fixed-fixed.ensures.has_extension ∙ not-true _ c.if-not-fixed.true) in
    omega (arith, all, none, c.least_len.ensures.before, c.if-buf-least_len.false)

-- what stands before the block, and the block in its form
both : (g : _) (c : After-block_fits g) → length (wire_bytes c.of-ids.result (with_values (g.F.GetFields.header c.args.fields.now) (g.V.ElementValues.values c.args.values.now)))
    ≡ 12 + 4 * (g.F.GetFields.header c.args.fields.now).csrc_count + length (block_bytes_in c.values_form-form.result c.of-ids.result (g.V.ElementValues.values c.args.values.now))
both g c =
    let header = g.F.GetFields.header c.args.fields.now in
    let values = g.V.ElementValues.values c.args.values.now in
    let set = announced-set c.of-ids.result header.has_extension values c.values_form-form.result (sym c.fixed-fixed.ensures.has_extension ∙ not-false _ c.if-not-fixed.false) (ap Some c.values_form-form.ensures.form) in
    omega (
      arith,
      whole c.of-ids.result header values (omega (arith, c.fixed-fixed.ensures.csrc_count, c.if-fixed-gt15.false)) c.fixed-fixed.ensures.slots,
      ap length (a_part c.of-ids.result header.has_extension values c.values_form-form.result set),
    )

pub returns-then-not-block_fits-clause-refused : goal.returns-then-not-block_fits-clause-refused
returns-then-not-block_fits-clause-refused g c =
    let whole-is = both g (goal.at.returns-then-not-block_fits-clause-refused g c).After-block_fits in
    let same = ap (λ (slots : Slots). length (wire_bytes slots (with_values (g.F.GetFields.header c.args.fields.now) (g.V.ElementValues.values c.args.values.now)))) c.of-ids.ensures in
    let block = length (block_bytes_in c.values_form-form.result c.of-ids.result (g.V.ElementValues.values c.args.values.now)) in
    let short : length c.args.buf.now - (12 + 4 * c.fixed-fixed.result.csrc_count) < block = lt_of_not-le (λ fits. true≢false (sym (c.block_fits.ensures.1 fits) ∙ c.if-not-block_fits.true)) in (
      λ _. CannotBeWritten.short_room (omega (arith, same, whole-is, c.fixed-fixed.ensures.csrc_count, short)),
      λ _. refl,
    )

pub write_in-requires-2-clause-room : goal.write_in-requires-2-clause-room
write_in-requires-2-clause-room g c =
    omega (arith, both g (goal.at.write_in-requires-2-clause-room g c).After-block_fits, c.fixed-fixed.ensures.csrc_count, c.block_fits.ensures.0 c.if-not-block_fits.false, c.least_len.ensures.before, c.if-buf-least_len.false)
