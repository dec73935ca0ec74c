use Rattle.rtp_ext.proofs.RowLemmas.{HasRows-already}
use Rattle.rtp_ext.proofs.rewriting.put_in_rows.Goals as goal

pub returns-then-survey-end : goal.returns-then-survey-end
returns-then-survey-end c = HasRows-already c.args.body.now c.args.body_len
    c.requires.within c.requires.survey c.requires.start c.requires.end c.if-survey-end.true
