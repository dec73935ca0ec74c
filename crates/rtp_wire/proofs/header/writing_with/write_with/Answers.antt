use Rattle.rtp_wire.proofs.Common.{rules, length, take, sym, arith, false≢true}
use Rattle.rtp_wire.proofs.RoundTrip.{AllByRecursion-from_each}
use Rattle.rtp_wire.proofs.WritingWithLemmas.{CanBeWrittenWith, ArePut, CannotBeWrittenWith-refused, CannotBeWrittenWith-not, wire_bytes_with-from_pieces, IsPacket-written_with}
use Rattle.rtp_wire.proofs.header.writing_with.write_with.Goals as goal

pub returns-in_err-form-clause-refused : goal.returns-in_err-form-clause-refused
returns-in_err-form-clause-refused g c = (
  λ _. CannotBeWrittenWith-refused (g.F.GetFields.header c.args.fields.now) c.args.allowed (g.L.ElementList.elements c.args.elements) (length c.args.buf.now) c.saturating_sub.result (omega arith)
      (omega (arith, c.saturating_sub.ensures)) c.in_err-form.ensures.refused,
  λ _. search rules,
)

-- it can be written, and its pieces were
can : (g : _) (c : goal.After-slice_known-4-1 g) → CanBeWrittenWith (g.F.GetFields.header c.args.fields.now) c.args.allowed (g.L.ElementList.elements c.args.elements) (length c.args.buf.now) c.saturating_sub.result c.in_ok-form.form
can g c = record {
  payload_type = omega arith;
  count = omega arith;
  slots = c.fixed-fixed.ensures.slots;
  left_is = omega (arith, c.saturating_sub.ensures);
  form_is = c.in_ok-form.ensures.form;
  fit = c.in_ok-form.ensures.fit;
  block_fits = c.in_ok-form.ensures.room;
}

are : (g : _) (c : goal.After-slice_known-4-1 g) → ArePut (g.F.GetFields.header c.args.fields.now) (g.L.ElementList.elements c.args.elements) c.in_ok-form.form c.args.buf.now c.put-end.new.buf c.put_csrc-end.new.buf c.write_block_of.new.buf
    c.fixed_bytes.result c.put-end.result c.put_csrc-end.result c.write_block_of.result
are g c = record {
  fixed_is = c.fixed_bytes.ensures.bytes;
  one_is = c.put-end.ensures.written;
  first_is = c.put-end.ensures.end;
  two_is = c.put_csrc-end.ensures.written;
  second_is = c.put_csrc-end.ensures.end;
  new_is = c.write_block_of.ensures.written;
  n_is = c.write_block_of.ensures.length;
}

pub returns-clause-refused : goal.returns-clause-refused
returns-clause-refused g c = (
  λ some. absurd (false≢true (sym some)),
  λ cannot. absurd (CannotBeWrittenWith-not (g.F.GetFields.header c.args.fields.now) c.args.allowed (g.L.ElementList.elements c.args.elements) (length c.args.buf.now) c.saturating_sub.result c.in_ok-form.form (can g c) cannot),
)

pub returns-clause-written : goal.returns-clause-written
returns-clause-written g c = (wire_bytes_with-from_pieces _ _ _ _ _ _ _ _ _ _ _ _ _ (can g c) (are g c)).1

pub returns-clause-length : goal.returns-clause-length
returns-clause-length g c = (wire_bytes_with-from_pieces _ _ _ _ _ _ _ _ _ _ _ _ _ (can g c) (are g c)).0

pub returns-clause-read_back : goal.returns-clause-read_back
returns-clause-read_back g c rest =
    IsPacket-written_with (g.F.GetFields.header c.args.fields.now) c.args.allowed (g.L.ElementList.elements c.args.elements) c.in_ok-form.form rest (record {
      payload_type = omega arith;
      count = omega arith;
      slots = c.fixed-fixed.ensures.slots;
      number = c.fixed_bytes.ensures.number;
      timestamp = c.fixed_bytes.ensures.timestamp;
      ssrc = c.fixed_bytes.ensures.ssrc;
      sources = AllByRecursion-from_each (take (g.F.GetFields.header c.args.fields.now).csrc_count (g.F.GetFields.header c.args.fields.now).csrc) c.put_csrc-end.ensures.in_range;
    }) c.in_ok-form.ensures.form c.in_ok-form.ensures.fit
