use Rattle.rtp_ext.proofs.ChangedRowsLemmas.{first_for, second_for, rows_changed}
use Rattle.rtp_ext.proofs.form_change.change_rows.Goals as goal

pub change_row-front-requires : goal.change_row-front-requires
change_row-front-requires c = first_for c.requires c.copy_within.ensures.after c.copy_within-2.ensures.after

pub change_row-count-requires : goal.change_row-count-requires
change_row-count-requires c =
    second_for c.requires
    c.copy_within.ensures.after c.copy_within-2.ensures.after
    c.change_row-front.new.room c.change_row-front.result c.change_row-front.ensures c.change_row-front.auto.room

pub returns : goal.returns
returns c = λ rows.
    rows_changed rows
    c.copy_within.ensures.after c.copy_within-2.ensures.after
    c.change_row-front.new.room c.change_row-front.result c.change_row-front.ensures c.change_row-front.auto.room
    c.change_row-count.new.room c.change_row-count.result c.change_row-count.ensures
