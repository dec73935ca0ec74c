use Rattle.rtp_ext.proofs.AroundLemmas.{HasRows-gathered}
use Rattle.rtp_ext.proofs.gathering.gather_around.Goals as goal

pub returns : goal.returns
returns c = HasRows-gathered c.args.body.now c.args.start c.args.end c.args.body_len
    c.requires.order c.requires.after c.requires.within c.gather-front.ensures c.gather-count.ensures
