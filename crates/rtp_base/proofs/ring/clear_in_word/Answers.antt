use Rattle.rtp_base.proofs.RingLemmas.{ring_bit-cleared, ring_bit-others}
use Rattle.rtp_base.proofs.ring.clear_in_word.Goals as goal

pub returns-clause-cleared : goal.returns-clause-cleared
returns-clause-cleared c n =
    ring_bit-cleared c.args.words.now c.word_of-at.result c.args.number c.args.count c.mask.result n
    c.word_of-at.ensures.place c.word_of-at.ensures.below c.requires.one_word c.mask.type_inv c.mask.ensures.inside

pub returns-clause-others : goal.returns-clause-others
returns-clause-others c n =
    ring_bit-others c.args.words.now c.word_of-at.result c.args.number c.args.count c.mask.result n
    c.word_of-at.ensures.place c.word_of-at.ensures.below c.requires.one_word c.mask.type_inv c.mask.ensures.before c.mask.ensures.after
