use Rattle.rtp_base.proofs.RingLemmas.{ring_bit-set}
use Rattle.rtp_base.proofs.ring.set.Goals as goal

pub returns : goal.returns
returns c n = ring_bit-set c.args.words.now c.word_of-at.result c.args.number n c.word_of-at.ensures.place c.word_of-at.ensures.below
