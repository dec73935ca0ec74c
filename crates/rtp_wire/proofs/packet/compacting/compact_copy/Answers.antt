use Rattle.rtp_wire.proofs.Common.{◌+◌, ◌≤◌, length, arith, rules, refl, sym, ◌∙◌, whole_words, parts_of}
use Rattle.rtp_wire.proofs.PutPlanLemmas.{short-body, whole-words}
use Rattle.rtp_wire.proofs.SetInPlaceLemmas.{body-ends}
use Rattle.rtp_wire.proofs.CompactLemmas.{n-within, room, length-moved, Compacts-made, Compacts-nothing}
use Rattle.rtp_wire.proofs.packet.compacting.compact_copy.Goals as goal

pub returns-in_default-clause-compacted : goal.returns-in_default-clause-compacted
returns-in_default-clause-compacted g c =
    Compacts-nothing c.args.datagram.now (parts_of c.in_ok-packet.packet) c.in_ok-packet.ensures.found (sym c.form-form.ensures ∙ c.in_default.is)

pub slice_bounds-body-end : goal.slice_bounds-body-end
slice_bounds-body-end g c =
    let ends =
    body-ends c.args.datagram.now (parts_of c.in_ok-packet.packet) c.in_ok-packet.ensures.found c.in-Some.form (sym c.form-form.ensures ∙ c.in-Some.is)
    c.sources_end-block_at.result c.header_len-payload_at.result c.sources_end-block_at.ensures c.header_len-payload_at.ensures in
    let first : c.sources_end-block_at.result + 4 ≤ c.header_len-payload_at.result = ends.0 in
    let second : c.header_len-payload_at.result ≤ length c.args.datagram.now = ends.1 in
    search rules

pub resize-requires-clause-order : goal.resize-requires-clause-order
resize-requires-clause-order g c =
    (body-ends c.args.datagram.now (parts_of c.in_ok-packet.packet) c.in_ok-packet.ensures.found c.in-Some.form (sym c.form-form.ensures ∙ c.in-Some.is)
    c.sources_end-block_at.result c.header_len-payload_at.result c.sources_end-block_at.ensures c.header_len-payload_at.ensures).1

pub resize-requires-clause-room : goal.resize-requires-clause-room
resize-requires-clause-room g c =
    room c.args.datagram.now (parts_of c.in_ok-packet.packet) c.in_ok-packet.ensures.found c.in-Some.form (sym c.form-form.ensures ∙ c.in-Some.is)
    c.sources_end-block_at.result c.header_len-payload_at.result c.sources_end-block_at.ensures c.header_len-payload_at.ensures c.compact_body-elements_len.result c.in_words-body_len.result
    c.compact_body-elements_len.new.body c.compact_body-elements_len.ensures c.in_words-body_len.ensures

pub in_words-body_len-requires : goal.in_words-body_len-requires
in_words-body_len-requires g c =
    omega (
      arith,
      (whole-words c.compact_body-elements_len.result).1,
      short-body c.in_ok-packet.packet,
      n-within c.args.datagram.now (parts_of c.in_ok-packet.packet) c.in_ok-packet.ensures.found c.in-Some.form (sym c.form-form.ensures ∙ c.in-Some.is)
          c.sources_end-block_at.result c.header_len-payload_at.result c.sources_end-block_at.ensures c.header_len-payload_at.ensures c.compact_body-elements_len.result (whole_words c.compact_body-elements_len.result)
          c.compact_body-elements_len.new.body c.compact_body-elements_len.ensures refl,
    )

pub resize-requires-clause-few : goal.resize-requires-clause-few
resize-requires-clause-few g c =
    omega (
      arith,
      short-body c.in_ok-packet.packet,
      n-within c.args.datagram.now (parts_of c.in_ok-packet.packet) c.in_ok-packet.ensures.found c.in-Some.form (sym c.form-form.ensures ∙ c.in-Some.is)
          c.sources_end-block_at.result c.header_len-payload_at.result c.sources_end-block_at.ensures c.header_len-payload_at.ensures c.compact_body-elements_len.result c.in_words-body_len.result
          c.compact_body-elements_len.new.body c.compact_body-elements_len.ensures c.in_words-body_len.ensures,
    )

pub overflow_add-result-2 : goal.overflow_add-result-2
overflow_add-result-2 g c =
    let ends =
    body-ends c.args.datagram.now (parts_of c.in_ok-packet.packet) c.in_ok-packet.ensures.found c.in-Some.form (sym c.form-form.ensures ∙ c.in-Some.is)
    c.sources_end-block_at.result c.header_len-payload_at.result c.sources_end-block_at.ensures c.header_len-payload_at.ensures in
    let within =
    n-within c.args.datagram.now (parts_of c.in_ok-packet.packet) c.in_ok-packet.ensures.found c.in-Some.form (sym c.form-form.ensures ∙ c.in-Some.is)
    c.sources_end-block_at.result c.header_len-payload_at.result c.sources_end-block_at.ensures c.header_len-payload_at.ensures c.compact_body-elements_len.result c.in_words-body_len.result
    c.compact_body-elements_len.new.body c.compact_body-elements_len.ensures c.in_words-body_len.ensures in
    omega (arith, ends.0, ends.2, within, c.header_len-payload_at.type_inv)

pub overflow_sub-result : goal.overflow_sub-result
overflow_sub-result g c =
    (body-ends c.args.datagram.now (parts_of c.in_ok-packet.packet) c.in_ok-packet.ensures.found c.in-Some.form (sym c.form-form.ensures ∙ c.in-Some.is)
    c.sources_end-block_at.result c.header_len-payload_at.result c.sources_end-block_at.ensures c.header_len-payload_at.ensures).1

pub returns-clause-compacted : goal.returns-clause-compacted
returns-clause-compacted g c =
    Compacts-made c.args.datagram.now (parts_of c.in_ok-packet.packet) c.in_ok-packet.ensures.found c.in-Some.form (sym c.form-form.ensures ∙ c.in-Some.is)
    c.sources_end-block_at.result c.header_len-payload_at.result c.sources_end-block_at.ensures c.header_len-payload_at.ensures c.compact_body-elements_len.result c.in_words-body_len.result
    c.compact_body-elements_len.new.body c.compact_body-elements_len.ensures c.in_words-body_len.ensures
    c.resize.new.buf c.resize.ensures (omega (
      arith,
      short-body c.in_ok-packet.packet,
      n-within c.args.datagram.now (parts_of c.in_ok-packet.packet) c.in_ok-packet.ensures.found c.in-Some.form (sym c.form-form.ensures ∙ c.in-Some.is)
          c.sources_end-block_at.result c.header_len-payload_at.result c.sources_end-block_at.ensures c.header_len-payload_at.ensures c.compact_body-elements_len.result c.in_words-body_len.result
          c.compact_body-elements_len.new.body c.compact_body-elements_len.ensures c.in_words-body_len.ensures,
    ))

pub returns-clause-within : goal.returns-clause-within
returns-clause-within g c =
    omega (
      arith,
      room c.args.datagram.now (parts_of c.in_ok-packet.packet) c.in_ok-packet.ensures.found c.in-Some.form (sym c.form-form.ensures ∙ c.in-Some.is)
          c.sources_end-block_at.result c.header_len-payload_at.result c.sources_end-block_at.ensures c.header_len-payload_at.ensures c.compact_body-elements_len.result c.in_words-body_len.result
          c.compact_body-elements_len.new.body c.compact_body-elements_len.ensures c.in_words-body_len.ensures,
      length-moved c.args.datagram.now (parts_of c.in_ok-packet.packet) c.in_ok-packet.ensures.found c.in-Some.form (sym c.form-form.ensures ∙ c.in-Some.is)
          c.sources_end-block_at.result c.header_len-payload_at.result c.sources_end-block_at.ensures c.header_len-payload_at.ensures c.compact_body-elements_len.result c.in_words-body_len.result
          c.compact_body-elements_len.new.body c.compact_body-elements_len.ensures c.in_words-body_len.ensures,
    )
