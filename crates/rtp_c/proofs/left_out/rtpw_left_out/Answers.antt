use Rattle.rtp_wire.specs.Written.{with_values}
use Rattle.rtp_c.specs.StoredMap.{numbered_slots}
use Rattle.rtp_c.proofs.NumberedLemmas.{HasKinds-numbered}
use Rattle.rtp_c.proofs.LeftOutLemmas.{AreBitsOf-same, put-two}
use Rattle.rtp_c.proofs.left_out.rtpw_left_out.Goals as goal

pub returns-clause-kinds : goal.returns-clause-kinds
returns-clause-kinds c is_ok = record {
  slots = numbered_slots c.args.map.now.kind;
  header = with_values c.in-Some.fields c.in-Some.values;
  is_given = record { has_kinds = HasKinds-numbered c.args.map.now.kind; is_given = c.in-Some.ensures.found };
  bits_are = AreBitsOf-same _ _ c.bits_of.result
      (λ kind. put-two (c.insert_if-2.ensures kind) (c.insert_if.ensures kind) (c.values_left_out-left.ensures kind) (c.has_offset_alone.ensures kind) (c.has_layers.ensures kind)) c.bits_of.ensures;
}
