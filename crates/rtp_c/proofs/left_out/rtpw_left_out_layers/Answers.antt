use Rattle.std.proofs.Common.{refl, sym}
use Rattle.rtp_wire.specs.Written.{with_values}
use Rattle.rtp_c.specs.StoredMap.{numbered_slots}
use Rattle.rtp_c.proofs.NumberedLemmas.{HasKinds-numbered}
use Rattle.rtp_c.proofs.StatusLemmas.{bad_field≢ok}
use Rattle.rtp_c.proofs.GivenLayersLemmas.{given_with}
use Rattle.rtp_c.proofs.LeftOutLemmas.{AreBitsOf-same, put-one}
use Rattle.rtp_c.proofs.left_out.rtpw_left_out_layers.Goals as goal

pub returns-clause-kinds : goal.returns-clause-kinds
returns-clause-kinds c _ = record {
  slots = numbered_slots c.args.map.now.kind;
  header = with_values c.in-Some.fields c.in-Some-with_given_layers.values;
  is_given = record {
    has_kinds = HasKinds-numbered c.args.map.now.kind;
    is_given = given_with c.args.header.now c.args.layers.now c.in-Some.fields c.in-Some.without _ c.in-Some.ensures.found c.in-Some-with_given_layers.ensures.found;
  };
  bits_are = AreBitsOf-same _ _ c.bits_of.result
      (λ kind. put-one (c.insert_if.ensures kind) (c.values_left_out-left.ensures kind) (c.has_offset_alone.ensures kind)) c.bits_of.ensures;
}

pub returns-in_default-clause-bad_field : goal.returns-in_default-clause-bad_field
returns-in_default-clause-bad_field c = (λ _ h is. c.in_default.ensures.none is.without is.is_given, λ _. refl)

pub returns-clause-bad_field : goal.returns-clause-bad_field
returns-clause-bad_field c =
    (λ is. absurd (bad_field≢ok (sym is)), λ none. absurd (none _ (given_with c.args.header.now c.args.layers.now c.in-Some.fields c.in-Some.without _ c.in-Some.ensures.found c.in-Some-with_given_layers.ensures.found)))
