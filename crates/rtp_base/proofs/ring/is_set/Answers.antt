use Rattle.rtp_base.proofs.RingLemmas.{ring_bit-is}
use Rattle.rtp_base.proofs.ring.is_set.Goals as goal

pub returns : goal.returns
returns c = ring_bit-is c.args.words.now c.word_of.result c.args.number c.word_of.ensures.place
