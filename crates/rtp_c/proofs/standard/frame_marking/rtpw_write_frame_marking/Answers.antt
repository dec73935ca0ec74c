use Rattle.std.proofs.Common.{sym, ap, ◌∙◌}
use Rattle.rtp_values.specs.StandardMarking.{marking_data}
use Rattle.rtp_c.proofs.StandardLemmas.{front-some_put, WritesData-put}
use Rattle.rtp_c.proofs.standard.frame_marking.rtpw_write_frame_marking.Goals as goal

pub returns : goal.returns
returns c =
    WritesData-put (ap marking_data (sym c.marking_of.ensures)
    ∙ front-some_put _ c.write_to.new.buf (marking_data c.marking_of.result) c.in-Some.data_len (sym c.in-Some.is ∙ c.write_to.ensures.length) c.write_to.ensures.written) c.put_data.ensures
