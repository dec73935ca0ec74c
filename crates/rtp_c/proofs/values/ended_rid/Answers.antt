use Rattle.rtp_c.proofs.Common.{◌≡◌, length, replicate, rules, ap, ◌∙◌}
use Rattle.rtp_base.specs.Id.{before_padding}
use Rattle.rtp_base.specs.Overwriting.{overwritten}
use Rattle.rtp_c.proofs.ToldLemmas.{ended, few}
use Rattle.rtp_c.proofs.values.ended_rid.Goals as goal

pub returns : goal.returns
returns c =
    let long : length c.zero_padded.result ≡ 8 = search rules in
    c.put.ensures.written ∙ ap (overwritten (replicate 9 0) 0) c.zero_padded.ensures
    ∙ ended 8 (before_padding c.args.rid) (few 8 (before_padding c.args.rid) c.zero_padded.result c.zero_padded.ensures long)
