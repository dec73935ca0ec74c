use Rattle.rtp_wire.proofs.Common.{Some, refl, sym, arith, length-take-le, false≢true, err_from_is_err_and, new_id, Fields, NewIdTooHigh, NoRoom}
use Rattle.rtp_wire.proofs.RetransmissionBytes.{lie_within, HasLayout-front}
use Rattle.rtp_wire.proofs.RetransmissionCauses.{HasHighId-whole, no_high_id-whole, sending_unread, sending_high, sending_no_room, sending_not_kept}
use Rattle.rtp_wire.proofs.RetransmissionHeaders.{fields-given}
use Rattle.rtp_wire.proofs.RetransmissionLemmas.{sent_made}
use Rattle.rtp_wire.proofs.packet.retransmission.to_retransmission.Goals as goal

pub returns-in_err-layout-clause-cause : goal.returns-in_err-layout-clause-cause
returns-in_err-layout-clause-cause c =
    let p = err_from_is_err_and c.from_residual.result c.from_residual.ensures.1 in
    rw (p.1, p.2) (sending_unread (new_id c.args.ids.now) c.args.buf.now c.args.len _ c.in_err-layout.ensures.cause)

pub returns-in_err-layout-clause-refused : goal.returns-in_err-layout-clause-refused
returns-in_err-layout-clause-refused c = (
  λ _. (c.in_err-layout.field-0.0, (sending_unread (new_id c.args.ids.now) c.args.buf.now c.args.len _ c.in_err-layout.ensures.cause).applies),
  λ _. c.from_residual.ensures.0,
)

pub overflow_sub-buf : goal.overflow_sub-buf
overflow_sub-buf c = (lie_within _ _ _ c.in_ok-layout.ensures.found).end_within

pub slice_bounds-carries_ids-end : goal.slice_bounds-carries_ids-end
slice_bounds-carries_ids-end c =
    let within = lie_within _ _ _ c.in_ok-layout.ensures.found in
    omega (arith, within.header_within, within.end_within)

pub slice_bounds-carries_ids-end-then-buf-end-lt2 : goal.slice_bounds-carries_ids-end-then-buf-end-lt2
slice_bounds-carries_ids-end-then-buf-end-lt2 c =
    let within = lie_within _ _ _ c.in_ok-layout.ensures.found in
    sym (length-take-le c.in_ok-layout.layout.header_len c.args.buf.now (omega (arith, within.header_within, within.end_within)))

pub carries_ids-requires : goal.carries_ids-requires
carries_ids-requires c = HasLayout-front _ _ _ c.in_ok-layout.ensures.found

pub returns-then-carries_ids-clause-cause : goal.returns-then-carries_ids-clause-cause
returns-then-carries_ids-clause-cause c =
    sending_no_room (new_id c.args.ids.now) _ _ _ c.in_ok-layout.ensures.found
    (no_high_id-whole (new_id c.args.ids.now) _ _ _ c.in_ok-layout.ensures.found c.if-carries_ids.ensures.carried) (omega arith)

pub returns-then-carries_ids-clause-refused : goal.returns-then-carries_ids-clause-refused
returns-then-carries_ids-clause-refused c = (λ _. (NoRoom, (returns-then-carries_ids-clause-cause c).applies), λ _. refl)

pub returns-then-buf-end-lt2-clause-cause : goal.returns-then-buf-end-lt2-clause-cause
returns-then-buf-end-lt2-clause-cause c =
    sending_high (new_id c.args.ids.now) _ _ _ c.in_ok-layout.ensures.found
    (HasHighId-whole (new_id c.args.ids.now) _ _ _ c.in_ok-layout.ensures.found c.if-carries_ids.ensures.high)

pub returns-then-buf-end-lt2-clause-refused : goal.returns-then-buf-end-lt2-clause-refused
returns-then-buf-end-lt2-clause-refused c = (λ _. (NewIdTooHigh, (returns-then-buf-end-lt2-clause-cause c).applies), λ _. refl)

pub change_header-requires-clause-header : goal.change_header-requires-clause-header
change_header-requires-clause-header c = HasLayout-front _ _ _ c.in_ok-layout.ensures.found

pub returns-then-not-change_header-clause-cause : goal.returns-then-not-change_header-clause-cause
returns-then-not-change_header-clause-cause c =
    sending_high (new_id c.args.ids.now) _ _ _ c.in_ok-layout.ensures.found
    (HasHighId-whole (new_id c.args.ids.now) _ _ _ c.in_ok-layout.ensures.found c.if-not-change_header.ensures.high)

pub returns-then-not-change_header-clause-refused : goal.returns-then-not-change_header-clause-refused
returns-then-not-change_header-clause-refused c = (λ _. (NewIdTooHigh, (returns-then-not-change_header-clause-cause c).applies), λ _. refl)

pub returns-clause-sent : goal.returns-clause-sent
returns-clause-sent c =
    let stream = c.args.stream.now in
    let others = c.default.ensures in
    let fields : Fields = record {
      marker = c.default.result.marker;
      payload_type = Some stream.payload_type;
      sequence_number = Some stream.sequence_number;
      timestamp = c.default.result.timestamp;
      ssrc = Some stream.ssrc;
    } in
    sent_made (new_id c.args.ids.now) _ _ _ c.in_ok-layout.ensures.found stream fields c.change_header.new.header c.copy_within.new.self c.to_be_bytes.result c.put.new.buf
    (fields-given fields stream.payload_type stream.sequence_number stream.ssrc others.0 refl refl others.1.1.1.0 refl)
    (record { changed = c.if-not-change_header.ensures.changed; length_is = c.change_header.auto.header; kept = c.if-not-change_header.ensures.block_header })
    (omega arith) c.copy_within.ensures.after c.put.ensures.written c.to_be_bytes.ensures

pub returns-clause-refused : goal.returns-clause-refused
returns-clause-refused c = (
  λ wrong. absurd (false≢true wrong),
  λ kept.
      absurd (sending_not_kept (new_id c.args.ids.now) _ _ _ c.in_ok-layout.ensures.found
      (no_high_id-whole (new_id c.args.ids.now) _ _ _ c.in_ok-layout.ensures.found c.if-not-change_header.ensures.carried) (omega arith) kept.0 kept.1),
)
