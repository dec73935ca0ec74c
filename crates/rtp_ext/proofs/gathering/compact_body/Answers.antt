use Rattle.rtp_ext.proofs.Common.{length, ap, ◌∙◌, elements_bytes, without}
use Rattle.rtp_ext.proofs.AnewLemmas.{row_to-zeros}
use Rattle.rtp_ext.proofs.GatheredLemmas.{others-0}
use Rattle.rtp_ext.proofs.gathering.compact_body.Goals as goal

pub returns : goal.returns
returns c =
    let gathered = c.gather_all-len.ensures in
    let row = others-0 gathered.elements in
    let count = gathered.len_is ∙ ap (λ es. length (elements_bytes c.args.form es)) row in
    record {
      elements = gathered.elements;
      are_elements = gathered.are_elements;
      new_is = c.clear_after.ensures
          ∙ row_to-zeros c.args.form (without 0 gathered.elements) c.gather_all-len.new.body gathered.length_is (gathered.row_is ∙ ap (elements_bytes c.args.form) row) count gathered.within;
      len_is = count;
      within = gathered.within;
    }
