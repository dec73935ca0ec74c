use Rattle.rtp_wire.proofs.Common.{rules, ◌≡◌, ◌≤◌, ◌-◌, ℕ, List, length, take, drop, inl, inr, Some, refl, sym, ap, subst, arith, length-take-le, false≢true, cases_lt, err_from_is_err_and, new_id, Fields, NewIdTooHigh, HasOriginalNumber, Restores}
use Rattle.rtp_wire.proofs.RetransmissionBytes.{lie_within, HasLayout-front, payload_part}
use Rattle.rtp_wire.proofs.RetransmissionCauses.{HasHighId-whole, no_high_id-whole, restoring_unread, restoring_no_number, restoring_high, restoring_not_kept}
use Rattle.rtp_wire.proofs.RetransmissionHeaders.{fields-given}
use Rattle.rtp_wire.proofs.RetransmissionLemmas.{restored_made, restored_back}
use Rattle.rtp_wire.proofs.packet.retransmission.from_retransmission.Goals as goal
use Rattle.rtp_wire.proofs.packet.retransmission.from_retransmission.Goals.{After-read_original_sequence_number, After-copy_within}

pub returns-in_err-layout-clause-cause : goal.returns-in_err-layout-clause-cause
returns-in_err-layout-clause-cause c =
    let p = err_from_is_err_and c.from_residual.result c.from_residual.ensures.1 in
    rw (p.1, p.2) (restoring_unread (new_id c.args.ids.now) c.args.buf.now c.args.len _ c.in_err-layout.ensures.cause)

pub returns-in_err-layout-clause-refused : goal.returns-in_err-layout-clause-refused
returns-in_err-layout-clause-refused c = (
  λ _. (c.in_err-layout.field-0.0, (restoring_unread (new_id c.args.ids.now) c.args.buf.now c.args.len _ c.in_err-layout.ensures.cause).applies),
  λ _. c.from_residual.ensures.0,
)

pub slice_bounds-read_original_sequence_number-end : goal.slice_bounds-read_original_sequence_number-end
slice_bounds-read_original_sequence_number-end c =
    let within = lie_within _ _ _ c.in_ok-layout.ensures.found in
    let header : c.in_ok-layout.layout.header_len ≤ c.in_ok-layout.layout.end = within.header_within in
    let whole : c.in_ok-layout.layout.end ≤ length c.args.buf.now = within.end_within in
    search rules

-- the payload that the number is read from, and its length
payload_read : (c : After-read_original_sequence_number)
    → take (c.in_ok-layout.layout.end - c.in_ok-layout.layout.header_len) (drop c.in_ok-layout.layout.header_len c.args.buf.now) ≡ c.in_ok-layout.ensures.found.payload
payload_read c = payload_part _ _ _ c.in_ok-layout.ensures.found

long : (c : After-read_original_sequence_number) → (c.read_original_sequence_number.result ≡ 0 → ⊥) → 2 ≤ length c.in_ok-layout.ensures.found.payload
long c read = elim (cases_lt (length c.in_ok-layout.ensures.found.payload) 2) [
  | inl short ↦ absurd (read (c.read_original_sequence_number.ensures.short (omega (arith, ap length (payload_read c), short))))
  | inr enough ↦ enough
]

-- the payload begins with the number
numbered : (c : After-read_original_sequence_number) → (c.read_original_sequence_number.result ≡ 0 → ⊥)
    → HasOriginalNumber c.in_ok-layout.ensures.found.payload c.read_original_sequence_number.new.seq
numbered c read =
    subst (λ (xs : List ℕ). HasOriginalNumber xs c.read_original_sequence_number.new.seq) (payload_read c)
    (c.read_original_sequence_number.ensures.number (omega (arith, ap length (payload_read c), long c read)))

pub returns-then-read_original_sequence_number-eq0-clause-cause : goal.returns-then-read_original_sequence_number-eq0-clause-cause
returns-then-read_original_sequence_number-eq0-clause-cause c =
    restoring_no_number (new_id c.args.ids.now) _ _ _ c.in_ok-layout.ensures.found
    (elim (cases_lt (length c.in_ok-layout.ensures.found.payload) 2) [
      | inl short ↦ short
      | inr enough ↦
          let read = c.read_original_sequence_number.ensures.length
          (omega (arith, ap length (payload_read (goal.at.returns-then-read_original_sequence_number-eq0-clause-cause c).After-read_original_sequence_number), enough)) in
          absurd (omega (arith, read, c.if-read_original_sequence_number-eq0.true))
    ])

pub slice_bounds-change_header-end-2 : goal.slice_bounds-change_header-end-2
slice_bounds-change_header-end-2 c =
    let within = lie_within _ _ _ c.in_ok-layout.ensures.found in
    sym (length-take-le c.in_ok-layout.layout.header_len c.args.buf.now (omega (arith, within.header_within, within.end_within)))

pub change_header-requires-clause-header : goal.change_header-requires-clause-header
change_header-requires-clause-header c = HasLayout-front _ _ _ c.in_ok-layout.ensures.found

pub returns-then-not-change_header-clause-cause : goal.returns-then-not-change_header-clause-cause
returns-then-not-change_header-clause-cause c =
    restoring_high (new_id c.args.ids.now) _ _ _ c.in_ok-layout.ensures.found
    (long (goal.at.returns-then-not-change_header-clause-cause c).After-read_original_sequence_number c.if-read_original_sequence_number-eq0.false)
    (HasHighId-whole (new_id c.args.ids.now) _ _ _ c.in_ok-layout.ensures.found c.if-not-change_header.ensures.high)

pub returns-then-not-change_header-clause-refused : goal.returns-then-not-change_header-clause-refused
returns-then-not-change_header-clause-refused c = (λ _. (NewIdTooHigh, (returns-then-not-change_header-clause-cause c).applies), λ _. refl)

-- the buffer has the packet in front
made : (c : After-copy_within) → HasOriginalNumber c.in_ok-layout.ensures.found.payload c.read_original_sequence_number.new.seq
    → Restores c.args.stream.now (new_id c.args.ids.now) c.args.buf.now c.args.len c.copy_within.new.self (c.in_ok-layout.layout.end - 2)
made c has =
    let stream = c.args.stream.now in
    let number = c.read_original_sequence_number.new.seq in
    let others = c.default.ensures in
    let fields : Fields = record {
      marker = c.default.result.marker;
      payload_type = Some stream.payload_type;
      sequence_number = Some number;
      timestamp = c.default.result.timestamp;
      ssrc = Some stream.ssrc;
    } in
    restored_made (new_id c.args.ids.now) _ _ _ c.in_ok-layout.ensures.found stream fields number c.change_header.new.header c.copy_within.new.self
    (fields-given fields stream.payload_type number stream.ssrc others.0 refl refl others.1.1.1.0 refl)
    (record { changed = c.if-not-change_header.ensures.changed; length_is = c.change_header.auto.header; kept = c.if-not-change_header.ensures.block_header }) has c.copy_within.ensures.after

pub returns-clause-restored : goal.returns-clause-restored
returns-clause-restored c =
    let at = goal.at.returns-clause-restored c in
    made at.After-copy_within (numbered at.After-read_original_sequence_number c.if-read_original_sequence_number-eq0.false)

pub returns-clause-refused : goal.returns-clause-refused
returns-clause-refused c = (
  λ wrong. absurd (false≢true wrong),
  λ kept.
      absurd (restoring_not_kept (new_id c.args.ids.now) _ _ _ c.in_ok-layout.ensures.found
      (long (goal.at.returns-clause-refused c).After-read_original_sequence_number c.if-read_original_sequence_number-eq0.false)
      (no_high_id-whole (new_id c.args.ids.now) _ _ _ c.in_ok-layout.ensures.found c.if-not-change_header.ensures.carried) kept.0 kept.1),
)

pub returns-clause-undone : goal.returns-clause-undone
returns-clause-undone c original sent fields there fits went is =
    let at = goal.at.returns-clause-undone c in
    restored_back original sent fields c.args.stream.now there (new_id c.args.ids.now) (take c.args.len c.args.buf.now) _ fits went is
    (made at.After-copy_within (numbered at.After-read_original_sequence_number c.if-read_original_sequence_number-eq0.false)).becomes
