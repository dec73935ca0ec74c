use Rattle.rtp_c.proofs.Common.{◌≡◌, length, replicate, rules, ap, ◌∙◌}
use Rattle.rtp_base.specs.Id.{before_padding}
use Rattle.rtp_base.specs.Overwriting.{overwritten}
use Rattle.rtp_c.proofs.ToldLemmas.{ended, few}
use Rattle.rtp_c.proofs.values.ended_mid.Goals as goal

pub returns : goal.returns
returns c =
    let long : length c.zero_padded.result ≡ 16 = search rules in
    c.put.ensures.written ∙ ap (overwritten (replicate 17 0) 0) c.zero_padded.ensures
    ∙ ended 16 (before_padding c.args.mid) (few 16 (before_padding c.args.mid) c.zero_padded.result c.zero_padded.ensures long)
