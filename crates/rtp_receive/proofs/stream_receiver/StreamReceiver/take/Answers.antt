use Rattle.std.proofs.Common.{ap, inr, sym, ◌∙◌, subst}
use Rattle.rtp_base.specs.Window.{WindowState, KeepsOf}
use Rattle.rtp_receive.specs.StreamState.{ReceiverState, held_by}
use Rattle.rtp_receive.specs.Receiver.{HoldsOf}
use Rattle.rtp_receive.proofs.ReceiverLemmas.{AcceptsOf-fresh, KeepsOf-taken}
use Rattle.rtp_receive.proofs.stream_receiver.StreamReceiver.take.Goals as goal

pub returns-in-Window-clause-accepts : goal.returns-in-Window-clause-accepts
returns-in-Window-clause-accepts g c count taken holds =
    let keeps = subst (λ (held : ReceiverState). HoldsOf g.W.ReplayWindow.size held count taken) (sym c.self.view_is ∙ ap (held_by g.W.ReplayWindow.state) c.in-Window.is) holds in
    let told = c.take.ensures.accepts taken keeps in
    (λ yes. inr (told.0 yes), λ fresh. told.1 (AcceptsOf-fresh g.W.ReplayWindow.size taken c.args.number _ keeps.top fresh))

pub returns-in-Window-clause-taken : goal.returns-in-Window-clause-taken
returns-in-Window-clause-taken g c count taken holds =
    let keeps = subst (λ (held : ReceiverState). HoldsOf g.W.ReplayWindow.size held count taken) (sym c.self.view_is ∙ ap (held_by g.W.ReplayWindow.state) c.in-Window.is) holds in
    KeepsOf-taken g.W.ReplayWindow.size taken c.args.number c.take.result _ (c.take.ensures.recorded taken keeps)
    (λ refused. subst (λ (window : WindowState). KeepsOf g.W.ReplayWindow.size window taken) (sym (c.take.ensures.refused refused)) keeps)
