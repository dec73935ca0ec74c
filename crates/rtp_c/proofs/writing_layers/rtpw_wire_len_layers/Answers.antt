use Rattle.std.proofs.Common.{refl, sym}
use Rattle.rtp_wire.specs.Written.{with_values}
use Rattle.rtp_c.specs.StoredMap.{numbered_slots}
use Rattle.rtp_c.proofs.NumberedLemmas.{HasKinds-numbered}
use Rattle.rtp_c.proofs.StatusLemmas.{bad_field≢ok}
use Rattle.rtp_c.proofs.GivenLayersLemmas.{given_with}
use Rattle.rtp_c.proofs.writing_layers.rtpw_wire_len_layers.Goals as goal

pub returns-clause-length : goal.returns-clause-length
returns-clause-length c _ = record {
  slots = numbered_slots c.args.map.now.kind;
  header = with_values c.in-Some.fields c.in-Some-with_given_layers.values;
  is_given = record {
    has_kinds = HasKinds-numbered c.args.map.now.kind;
    is_given = given_with c.args.header.now c.args.layers.now c.in-Some.fields c.in-Some.without _ c.in-Some.ensures.found c.in-Some-with_given_layers.ensures.found;
  };
  len_is = c.values_wire_len.ensures.length;
}

pub returns-in_default-clause-bad_field : goal.returns-in_default-clause-bad_field
returns-in_default-clause-bad_field c = (λ _ h is. c.in_default.ensures.none is.without is.is_given, λ _. refl)

pub returns-clause-bad_field : goal.returns-clause-bad_field
returns-clause-bad_field c =
    (λ is. absurd (bad_field≢ok (sym is)), λ none. absurd (none _ (given_with c.args.header.now c.args.layers.now c.in-Some.fields c.in-Some.without _ c.in-Some.ensures.found c.in-Some-with_given_layers.ensures.found)))
