use Rattle.std.proofs.Common.{ap, ℕ, sym, ◌∙◌, subst, arith}
use Rattle.std.specs.Prelude.{Some}
use Rattle.rtp_receive.specs.StreamState.{ReceiverState, held_by}
use Rattle.rtp_receive.specs.Receiver.{HoldsOf}
use Rattle.rtp_receive.specs.Widening.{Extends}
use Rattle.rtp_receive.proofs.TrueNumberLemmas.{number_in_reach}
use Rattle.rtp_receive.proofs.stream_receiver.StreamReceiver.number_of.Goals as goal

pub returns-in-Window-clause-nearest : goal.returns-in-Window-clause-nearest
returns-in-Window-clause-nearest g c count taken holds =
    let keeps = subst (λ (held : ReceiverState). HoldsOf g.W.ReplayWindow.size held count taken) (sym c.self.view_is ∙ ap (held_by g.W.ReplayWindow.state) c.in-Window.is) holds in
    let near = subst (λ (k : ℕ). Extends 16 (Some k) c.args.sequence_number c.from-in-Window.result) c.get-highest.ensures (rw c.from-in-Window.ensures c.extend_u16.ensures.near) in
    (Some c.max_seq.result, c.max_seq.ensures.greatest taken keeps, near)

pub returns-in-Window-clause-true_number : goal.returns-in-Window-clause-true_number
returns-in-Window-clause-true_number g c count numbers number holds is =
    let keeps = subst (λ (held : ReceiverState). HoldsOf g.W.ReplayWindow.size held count numbers) (sym c.self.view_is ∙ ap (held_by g.W.ReplayWindow.state) c.in-Window.is) holds in
    let near = subst (λ (k : ℕ). Extends 16 (Some k) c.args.sequence_number c.from-in-Window.result) c.get-highest.ensures (rw c.from-in-Window.ensures c.extend_u16.ensures.near) in
    number_in_reach count numbers c.max_seq.result c.args.sequence_number number c.from-in-Window.result (omega arith)
    (c.max_seq.ensures.greatest numbers keeps) is near
