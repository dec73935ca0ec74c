use Rattle.std.proofs.Common.{refl, length}
use Rattle.rtp_wire.specs.Written.{with_values}
use Rattle.rtp_c.specs.GivenLayers.{IsGivenWithLayers}
use Rattle.rtp_c.specs.StoredMap.{numbered_slots}
use Rattle.rtp_c.proofs.NumberedLemmas.{HasKinds-numbered}
use Rattle.rtp_c.proofs.GivenLayersLemmas.{given_with, with_layers-type_fits, with_layers-few_sources}
use Rattle.rtp_c.proofs.WrittenHeaderLemmas.{IsTooLong-refused, WritesHeader-written, WritesHeader-short, WritesHeader-bad}
use Rattle.rtp_c.proofs.writing_layers.rtpw_write_layers.Goals.{In-Some-with_given_layers}
use Rattle.rtp_c.proofs.writing_layers.rtpw_write_layers.Goals as goal

-- the header that is given, with its layers
given_there : (c : In-Some-with_given_layers) → IsGivenWithLayers c.args.header.now c.args.layers.now (with_values c.in-Some.fields c.in-Some-with_given_layers.values)
given_there c = given_with c.args.header.now c.args.layers.now c.in-Some.fields c.in-Some.without _ c.in-Some.ensures.found c.in-Some-with_given_layers.ensures.found

pub returns-in_default : goal.returns-in_default
returns-in_default c = WritesHeader-bad (λ h is. c.in_default.ensures.none is.without is.is_given)

pub returns-in_default-try_write_values : goal.returns-in_default-try_write_values
returns-in_default-try_write_values c =
    let there = given_there (goal.at.returns-in_default-try_write_values c).In-Some-with_given_layers in
    let numbers = c.args.map.now.kind in
    rw c.in_default-try_write_values.ensures.unchanged (WritesHeader-short
    (IsTooLong-refused numbers (IsGivenWithLayers c.args.header.now c.args.layers.now) (numbered_slots numbers)
    (with_values c.in-Some.fields c.in-Some-with_given_layers.values) (length c.args.buf.now)
    (record { has_kinds = HasKinds-numbered numbers; is_given = there })
    (with_layers-type_fits c.args.header.now c.args.layers.now _ there) (with_layers-few_sources c.args.header.now c.args.layers.now _ there)
    (c.in_default-try_write_values.ensures.refused.0 refl)))

pub returns : goal.returns
returns c = WritesHeader-written (record {
  slots = numbered_slots c.args.map.now.kind;
  header = with_values c.in-Some.fields c.in-Some-with_given_layers.values;
  is_given = record { has_kinds = HasKinds-numbered c.args.map.now.kind; is_given = given_there (goal.at.returns c).In-Some-with_given_layers };
  len_is = c.in-Some-try_write_values.ensures.length;
  written = c.in-Some-try_write_values.ensures.written;
  read_back = c.in-Some-try_write_values.ensures.read_back;
})
