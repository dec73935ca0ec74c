use Rattle.rtp_c.proofs.Common.{◌≡◌, ℕ, ◌+◌, ◌-◌, ◌<◌, List, ◌++◌, length, take, drop, refl, sym, ap, subst, ◌∙◌, arith, length-take, length-drop}
use Rattle.rtp_base.proofs.OverwritingLemmas.{overwritten-copied}
use Rattle.rtp_wire.specs.ChangedPacket.{ChangesOnly}
use Rattle.rtp_wire.specs.Packet.{IsPacket}
use Rattle.rtp_wire.proofs.PartsLemmas.{length-packet}
use Rattle.rtp_route.specs.Calls as calls
use Rattle.rtp_route.specs.Template.{slot_lengths, total_of, pieces}
use Rattle.rtp_c.specs.PacketView.{slice_at}
use Rattle.rtp_c.specs.RoutedHeaders.{IsReceivers, IsReceiversAgain, data_of, len_for}
use Rattle.rtp_c.specs.SetFields.{fields_given, CanBeSet}
use Rattle.rtp_c.specs.StoredTemplate.{slots_of}
use Rattle.rtp_route.proofs.ByCallsLemmas.{alone_parts, header-is, header-alone, header_in-length}
use Rattle.rtp_c.proofs.RoutedLemmas.{receivers-header, receivers-unpadded, length-slice, len-packet, len-again}
use Rattle.rtp_c.proofs.routed_headers.write_at.Goals as goal
use Rattle.rtp_c.proofs.routed_headers.write_at.Goals.{In-Some, else-receiver-ne0-via-then-receiver-ne0+else-receiver-gt127, else-receiver-ne0-via-else-receiver-ne0}

-- the fields can be set
can_be_set : (c : In-Some) → CanBeSet c.args.receiver.now.fields
can_be_set c = elim c.else-receiver-ne0.branch [
  | else-receiver-ne0-via-then-receiver-ne0+else-receiver-gt127 w ↦ λ _. w.if-receiver-gt127.false
  | else-receiver-ne0-via-else-receiver-ne0 w ↦ λ some. absurd (omega (arith, some, w.if-receiver-ne0.false))
]

pub returns-then-receiver-ne0-2-clause-written : goal.returns-then-receiver-ne0-2-clause-written
returns-then-receiver-ne0-2-clause-written c =
    let receiver = c.args.receiver.now in
    let header = calls.header_in c.args.header.now in
    let slots = slots_of c.args.slots.made.now in
    let bytes = c.args.bytes.now in
    let can = can_be_set (goal.at.returns-then-receiver-ne0-2-clause-written c).In-Some in
    let some : 0 < receiver.is_retransmission = omega (arith, c.if-receiver-ne0-2.true) in
    let data_is : c.in-Some.own.now ≡ slice_at bytes receiver.data_at (total_of slots) = c.in-Some.ensures.found.1 ∙ ap (slice_at bytes receiver.data_at) c.requires.total in
    let is = c.in-Some-write_again.ensures.written in
    record {
      served = record { fields = can; within = omega (arith, c.in-Some.ensures.found.0, c.requires.total) };
      len_is = is.len_is ∙ sym (len-again header receiver some);
      within = is.within;
      own = is.own;
      gets = record {
        packet = λ none. absurd (omega (arith, none, some));
        unpadded = λ none. absurd (omega (arith, none, some));
        retransmission = λ _. subst (λ (b : List ℕ). IsReceiversAgain header slots (fields_given receiver.fields) receiver.original_number (pieces (slot_lengths slots) b) is.own) data_is is.again;
      };
      after_is = is.after_is;
    }

pub returns-in_default-write_again-clause-refused : goal.returns-in_default-write_again-clause-refused
returns-in_default-write_again-clause-refused c =
    let receiver = c.args.receiver.now in
    let header = calls.header_in c.args.header.now in
    let can = can_be_set (goal.at.returns-in_default-write_again-clause-refused c).In-Some in
    let some : 0 < receiver.is_retransmission = omega (arith, c.if-receiver-ne0-2.true) in
    let len = len-again header receiver some in
    let long = header_in-length c.args.header.now in
    record {
      served = λ _. (refl, omega (arith, c.in_default-write_again.ensures.short, len, long));
      bad = λ not. absurd (not (record { fields = can; within = omega (arith, c.in-Some.ensures.found.0, c.requires.total) }));
    }

pub returns-then-len-buf-clause-refused : goal.returns-then-len-buf-clause-refused
returns-then-len-buf-clause-refused c =
    let receiver = c.args.receiver.now in
    let header = calls.header_in c.args.header.now in
    let can = can_be_set (goal.at.returns-then-len-buf-clause-refused c).In-Some in
    let len = len-packet header receiver (omega (arith, c.if-receiver-ne0-2.false)) in
    record {
      served = λ _. (refl, omega (arith, c.if-len-buf.true, c.requires.place, len, header_in-length c.args.header.now, c.header_len-len.ensures));
      bad = λ not. absurd (not (record { fields = can; within = omega (arith, c.in-Some.ensures.found.0, c.requires.total) }));
    }

pub returns-clause-written : goal.returns-clause-written
returns-clause-written c =
    let receiver = c.args.receiver.now in
    let header = calls.header_in c.args.header.now in
    let slots = slots_of c.args.slots.made.now in
    let own = c.clear_where_asked.new.buf in
    let filled = c.fill_joined.new.buf in
    let fields = fields_given receiver.fields in
    let bytes = c.args.bytes.now in
    let contents = data_of slots bytes receiver in
    let buf = c.args.buf.now in
    let at = c.args.at in
    let len = c.header_len-len.result in
    let long = header_in-length c.args.header.now in
    let can = can_be_set (goal.at.returns-clause-written c).In-Some in
    let none : receiver.is_retransmission ≡ 0 = omega (arith, c.if-receiver-ne0-2.false) in
    let copied : c.copy_header.new.buf ≡ header = c.copy_header.ensures ∙ header-is c.args.header.now c.header_bytes.result.now c.header_bytes.ensures.front c.header_bytes.ensures.alone in
    let alone : len_for header receiver ≡ length header = len-packet header receiver none in
    let own_len : len ≡ length own =
    omega (arith, c.clear_where_asked.auto.buf, c.fill_joined.auto.buf, c.set_given.auto.buf, c.copy_header.auto.buf, c.if-len-buf.false, c.requires.place, length-take (at + len - at) (drop at buf), length-drop at buf) in
    let is : IsReceivers header slots fields contents filled =
    receivers-header header slots fields fields bytes c.in-Some.own.now receiver.data_at c.args.data_len filled refl c.in-Some.ensures.found.1 c.requires.total
    c.in-Some.ensures.found.0 (record {
      set = c.set_given.new.buf;
      is_packet = λ parts is. c.set_given.ensures.set parts (subst (λ (b : List ℕ). IsPacket b parts) (sym copied) is);
      only = subst (λ (b : List ℕ). ChangesOnly 1 12 b c.set_given.new.buf) copied c.set_given.ensures.fixed;
      filled = c.fill_joined.ensures;
    }) in
    record {
      served = record { fields = can; within = omega (arith, c.in-Some.ensures.found.0, c.requires.total) };
      len_is = omega (arith, alone, long, c.header_len-len.ensures);
      within = omega (arith, c.if-len-buf.false, c.requires.place);
      own = own;
      gets = record {
        packet = λ _ stays. subst (λ (b : List ℕ). IsReceivers header slots fields contents b) (sym (c.clear_where_asked.ensures.unchanged stays)) is;
        unpadded = λ _ clear. receivers-unpadded header slots fields contents filled own is (c.clear_where_asked.ensures.unpadded clear);
        retransmission = λ some. absurd (omega (arith, some, none));
      };
      after_is = ap (λ (n : ℕ). take at buf ++ (own ++ drop (at + n - at) (drop at buf))) own_len ∙ overwritten-copied buf own at;
    }

pub copy_header-requires : goal.copy_header-requires
copy_header-requires c =
    let at = c.args.at in
    let len = c.header_len-len.result in
    let buf = c.args.buf.now in
    omega (
      arith,
      c.header_len-len.ensures,
      length-packet c.header_bytes.result.now _ c.header_bytes.ensures.alone,
      c.if-len-buf.false,
      c.requires.place,
      length-take (at + len - at) (drop at buf),
      length-drop at buf,
    )

pub set_given-requires : goal.set_given-requires
set_given-requires c =
    let header = c.args.header.now in
    let copied = c.copy_header.ensures ∙ header-is header c.header_bytes.result.now c.header_bytes.ensures.front c.header_bytes.ensures.alone in
    record {
      held = record {
        parts = alone_parts header;
        is_packet = subst (λ (b : List ℕ). IsPacket b (alone_parts header)) (sym copied) (header-alone header).1;
        form_is = c.form.ensures;
        len_is = omega arith;
      };
      payload_type = can_be_set (goal.at.set_given-requires c).In-Some;
    }

pub fill_joined-requires : goal.fill_joined-requires
fill_joined-requires c =
    let header = c.args.header.now in
    let copied = c.copy_header.ensures ∙ header-is header c.header_bytes.result.now c.header_bytes.ensures.front c.header_bytes.ensures.alone in
    record {
      lengths = ap length c.in-Some.ensures.found.1 ∙ length-slice c.args.bytes.now c.args.receiver.now.data_at c.args.data_len c.in-Some.ensures.found.0 ∙ c.requires.total;
      within = λ k d there. omega (arith, c.requires.within k d there, c.set_given.auto.buf, ap length copied, header_in-length header);
    }

pub write_again-requires-clause-lengths : goal.write_again-requires-clause-lengths
write_again-requires-clause-lengths c =
    ap length c.in-Some.ensures.found.1 ∙ length-slice c.args.bytes.now c.args.receiver.now.data_at c.args.data_len c.in-Some.ensures.found.0 ∙ c.requires.total
