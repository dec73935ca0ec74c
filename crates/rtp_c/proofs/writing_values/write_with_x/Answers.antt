use Rattle.std.proofs.Common.{refl, length}
use Rattle.rtp_wire.specs.Written.{with_values}
use Rattle.rtp_c.specs.Given.{IsGivenHeader}
use Rattle.rtp_c.specs.StoredMap.{numbered_slots}
use Rattle.rtp_c.proofs.NumberedLemmas.{HasKinds-numbered}
use Rattle.rtp_c.proofs.WrittenHeaderLemmas.{IsGivenHeader-with, IsTooLong-refused, WritesHeader-written, WritesHeader-short, WritesHeader-bad, type_fits, few_sources}
use Rattle.rtp_c.proofs.writing_values.write_with_x.Goals as goal

pub returns-in_default : goal.returns-in_default
returns-in_default c = WritesHeader-bad (λ h is. c.in_default.ensures.none h is.fields)

pub returns-in_default-try_write_values : goal.returns-in_default-try_write_values
returns-in_default-try_write_values c =
    let there = IsGivenHeader-with c.args.header.now c.in-Some.fields c.args.values c.in-Some.ensures.found c.requires.values in
    let numbers = c.args.map.now.kind in
    rw c.in_default-try_write_values.ensures.unchanged (WritesHeader-short
    (IsTooLong-refused numbers (IsGivenHeader c.args.header.now) (numbered_slots numbers) (with_values c.in-Some.fields c.args.values) (length c.args.buf.now)
    (record { has_kinds = HasKinds-numbered numbers; is_given = there })
    (type_fits c.args.header.now _ there.fields) (few_sources c.args.header.now _ there.fields)
    (c.in_default-try_write_values.ensures.refused.0 refl)))

pub returns : goal.returns
returns c =
    let numbers = c.args.map.now.kind in
    WritesHeader-written (record {
      slots = numbered_slots numbers;
      header = with_values c.in-Some.fields c.args.values;
      is_given = record { has_kinds = HasKinds-numbered numbers; is_given = IsGivenHeader-with c.args.header.now c.in-Some.fields c.args.values c.in-Some.ensures.found c.requires.values };
      len_is = c.in-Some-try_write_values.ensures.length;
      written = c.in-Some-try_write_values.ensures.written;
      read_back = c.in-Some-try_write_values.ensures.read_back;
    })
