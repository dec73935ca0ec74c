use Rattle.std.proofs.Common.{refl}
use Rattle.std.proofs.lemmas.Bool.{false≢true}
use Rattle.rtp_route.proofs.SlotLemmas.{length-at}
use Rattle.rtp_route.proofs.slots.have_lengths.Goals as goal

pub returns-then-contents-index : goal.returns-then-contents-index
returns-then-contents-index c = (
  λ no. absurd (false≢true no),
  λ same. absurd (c.if-contents-index.true (length-at c.args.slots.now c.args.contents.now c.loop-index.index _ _ refl same)),
)
