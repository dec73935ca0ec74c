use Rattle.rtp_c.proofs.GivenLayersLemmas.{given_in, few_of_given}
use Rattle.rtp_c.proofs.given_layers.has_few.Goals as goal

pub returns-then-view-le4 : goal.returns-then-view-le4
returns-then-view-le4 c = (
  λ all. given_in c.args.view.now c.if-view-le4.true (rw c.counted.ensures at c.have_few_layers.ensures.0 all),
  λ is. c.have_few_layers.ensures.1 (rw c.counted.ensures (few_of_given c.args.view.now _ is)),
)
