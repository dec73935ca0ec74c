use Rattle.rtp_c.proofs.Common.{ℤ, List, ℕ, sym, ap, ◌∙◌, subst, rules}
use Rattle.rtp_values.specs.StandardTiming.{timing_data}
use Rattle.rtp_c.specs.StandardData.{PutsBytes}
use Rattle.rtp_c.specs.StandardTiming.{given_timing}
use Rattle.rtp_c.proofs.StandardLemmas.{front-put}
use Rattle.rtp_c.proofs.StatusLemmas.{passed_on}
use Rattle.rtp_c.proofs.standard.timing.rtpw_write_timing.Goals as goal

pub returns : goal.returns
returns c =
    let bytes_are = sym (ap timing_data c.timing_of.ensures)
    ∙ front-put _ (timing_data c.timing_of.result) c.write_to-data_len.new.buf c.write_to-data_len.result c.write_to-data_len.ensures.length c.write_to-data_len.ensures.written in
    passed_on c.put_data.result (search rules) (λ (z : ℤ). PutsBytes (timing_data (given_timing c.args.timing.now)) c.args.buf.now c.put_data.new.buf c.args.len.now c.put_data.new.len z)
    (subst (λ (b : List ℕ). PutsBytes b c.args.buf.now c.put_data.new.buf c.args.len.now c.put_data.new.len c.put_data.result) (sym bytes_are) c.put_data.ensures)
