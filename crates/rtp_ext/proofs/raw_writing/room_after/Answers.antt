use Rattle.std.proofs.Common.{arith, length}
use Rattle.rtp_ext.proofs.WrittenBlockLemmas.{length-header_bytes}
use Rattle.rtp_ext.proofs.RawWritingLemmas.{IsWritable-short, IsRoomAfter, IsRoomAfter-taken}
use Rattle.rtp_ext.proofs.raw_writing.room_after.Goals as goal

pub overflow_add-element_header_len : goal.overflow_add-element_header_len
overflow_add-element_header_len c =
    omega (
      arith,
      c.element_header_len.ensures 0 0,
      length-header_bytes c.args.form 0 0,
      IsWritable-short c.args.form (c.args.id, c.args.bytes.now) (c.can_carry.ensures.carried.0 c.if-not-can_carry.false),
    )

taken : (c : goal.After-checked_sub) → IsRoomAfter c.args.form (c.args.id, c.args.bytes.now) c.args.room c.checked_sub.result
taken c = IsRoomAfter-taken c.args.form c.args.id c.args.bytes.now c.args.room c.checked_sub.result
    (c.can_carry.ensures.carried.0 c.if-not-can_carry.false) (c.element_header_len.ensures c.args.id (length c.args.bytes.now)) c.checked_sub.ensures

pub returns-clause-some : goal.returns-clause-some
returns-clause-some c = (taken c).0

pub returns-clause-none : goal.returns-clause-none
returns-clause-none c = (taken c).1
