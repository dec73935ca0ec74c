use Rattle.rtp_ext.proofs.Common.{arith, length, ◌+◌}
use Rattle.rtp_ext.proofs.RowFormLemmas.{ChangesRowTo-start, ChangesRowTo-next, ChangesRow-end, ahead, in_room, carried}
use Rattle.rtp_ext.proofs.form_change.change_row_in.Goals as goal

pub loop-place-init : goal.loop-place-init
loop-place-init c = ChangesRowTo-start c.requires

pub overflow_add-data_at : goal.overflow_add-data_at
overflow_add-data_at c =
    let far = ahead c.args.form c.args.new_form c.args.room.now c.loop-place.room c.args.len c.loop-place.at c.loop-place.end c.in-Some.place c.loop-place.invariant c.in-Some.ensures.found in
    omega (arith, far, c.element_header_len.ensures c.in-Some.place.id (length c.in-Some.ensures.found.bytes))

pub copy_within-requires-clause-dest_in_bounds : goal.copy_within-requires-clause-dest_in_bounds
copy_within-requires-clause-dest_in_bounds c =
    let far = ahead c.args.form c.args.new_form c.args.room.now c.loop-place.room c.args.len c.loop-place.at c.loop-place.end c.in-Some.place c.loop-place.invariant c.in-Some.ensures.found in
    let within = in_room c.args.form c.args.new_form c.args.room.now c.loop-place.room c.args.len c.loop-place.at c.loop-place.end c.in-Some.place c.loop-place.invariant c.in-Some.ensures.found in
    omega (arith, far, within, c.in-Some.ensures.found.end_is, c.element_header_len.ensures c.in-Some.place.id (length c.in-Some.ensures.found.bytes))

pub write_header-requires-clause-fits : goal.write_header-requires-clause-fits
write_header-requires-clause-fits c =
    carried c.args.form c.args.new_form c.args.room.now c.loop-place.room c.args.len c.loop-place.at c.loop-place.end c.in-Some.place c.loop-place.invariant c.in-Some.ensures.found

pub loop-place-preserved : goal.loop-place-preserved
loop-place-preserved c =
    ChangesRowTo-next c.args.form c.args.new_form c.args.room.now c.loop-place.room c.args.len c.loop-place.at c.loop-place.end c.in-Some.place c.loop-place.invariant c.in-Some.ensures.found
    c.copy_within.new.self c.write_header.new.buf (c.loop-place.end + c.element_header_len.result)
    (omega (arith, c.element_header_len.ensures c.in-Some.place.id (length c.in-Some.ensures.found.bytes))) c.copy_within.ensures.after c.write_header.ensures

pub returns : goal.returns
returns c = ChangesRow-end c.loop-place.invariant c.in_default.ensures.none
