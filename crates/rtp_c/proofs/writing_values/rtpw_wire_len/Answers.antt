use Rattle.rtp_wire.specs.Written.{with_values}
use Rattle.rtp_c.specs.StoredMap.{numbered_slots}
use Rattle.rtp_c.proofs.NumberedLemmas.{HasKinds-numbered}
use Rattle.rtp_c.proofs.writing_values.rtpw_wire_len.Goals as goal

pub returns-clause-length : goal.returns-clause-length
returns-clause-length c is_ok = record {
  slots = numbered_slots c.args.map.now.kind;
  header = with_values c.in-Some.fields c.in-Some.values;
  is_given = record { has_kinds = HasKinds-numbered c.args.map.now.kind; is_given = c.in-Some.ensures.found };
  len_is = c.values_wire_len.ensures.length;
}
