use Rattle.std.proofs.Common.{sym, subst}
use Rattle.std.proofs.lemmas.Bool.{false≢true}
use Rattle.rtp_receive.specs.Receiver.{IsFreshOf}
use Rattle.rtp_receive.proofs.ReceiverLemmas.{HoldsOf-refused}
use Rattle.rtp_receive.proofs.stream_receiver.StreamReceiver.receive.Goals as goal

pub returns-else-take-clause-true_number : goal.returns-else-take-clause-true_number
returns-else-take-clause-true_number g c count numbers number holds is fresh =
    let same = c.number_of-number.ensures.true_number count numbers number holds is in
    let told = c.if-take.ensures.accepts count numbers holds in
    false≢true (told.1 (subst (IsFreshOf g.W.ReplayWindow.size numbers) (sym same) fresh))

pub returns-else-take-clause-true_numbers : goal.returns-else-take-clause-true_numbers
returns-else-take-clause-true_numbers g c count numbers number holds is =
    let same = c.number_of-number.ensures.true_number count numbers number holds is in
    let told = c.if-take.ensures.accepts count numbers holds in
    HoldsOf-refused g.W.ReplayWindow.size c.take.new.self count numbers number (λ fresh. false≢true (told.1 (subst (IsFreshOf g.W.ReplayWindow.size numbers) (sym same) fresh))) (c.if-take.ensures.taken count numbers holds)
