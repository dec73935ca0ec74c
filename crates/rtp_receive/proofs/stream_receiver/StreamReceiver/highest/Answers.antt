use Rattle.std.proofs.Common.{ap, false, refl, sym, ◌∙◌, subst}
use Rattle.rtp_base.specs.Window.{Numbers}
use Rattle.rtp_receive.specs.StreamState.{ReceiverState, held_by}
use Rattle.rtp_receive.specs.Receiver.{HoldsOf, IsNothing}
use Rattle.rtp_receive.proofs.stream_receiver.StreamReceiver.highest.Goals as goal

none : Numbers
none = λ n. false

nothing : IsNothing none
unfolding none
nothing n = refl

pub returns-in-Start-clause-some : goal.returns-in-Start-clause-some
returns-in-Start-clause-some g c = (c.in-Start.field-0, none, subst (λ (held : ReceiverState). HoldsOf g.W.ReplayWindow.size held c.in-Start.field-0 none) (sym (ap (held_by g.W.ReplayWindow.state) c.in-Start.is) ∙ c.self.view_is) (refl, nothing))

pub returns-in-Window-clause-highest : goal.returns-in-Window-clause-highest
returns-in-Window-clause-highest g c count taken holds =
    c.max_seq.ensures.greatest taken (subst (λ (held : ReceiverState). HoldsOf g.W.ReplayWindow.size held count taken) (sym c.self.view_is ∙ ap (held_by g.W.ReplayWindow.state) c.in-Window.is) holds)
