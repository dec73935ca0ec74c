use Rattle.std.proofs.Common.{ap, inr, sym, ◌∙◌, subst}
use Rattle.rtp_receive.specs.StreamState.{ReceiverState, held_by}
use Rattle.rtp_receive.specs.Receiver.{HoldsOf}
use Rattle.rtp_receive.proofs.ReceiverLemmas.{AcceptsOf-fresh}
use Rattle.rtp_receive.proofs.stream_receiver.StreamReceiver.accepts.Goals as goal

pub returns-in-Window : goal.returns-in-Window
returns-in-Window g c count taken holds =
    let keeps = subst (λ (held : ReceiverState). HoldsOf g.W.ReplayWindow.size held count taken) (sym c.self.view_is ∙ ap (held_by g.W.ReplayWindow.state) c.in-Window.is) holds in
    let told = c.accepts.ensures taken keeps in
    (λ yes. inr (told.0 yes), λ fresh. told.1 (AcceptsOf-fresh g.W.ReplayWindow.size taken c.args.number _ keeps.top fresh))
