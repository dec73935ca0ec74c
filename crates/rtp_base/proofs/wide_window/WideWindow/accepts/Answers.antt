use Rattle.rtp_base.proofs.Common.{◌*◌, sym, subst, WindowState, KeepsOf}
use Rattle.rtp_base.proofs.wide_window.WideWindow.accepts.Goals as goal

pub returns : goal.returns
returns g c taken keeps =
    let is = rw c.self.invariant.1 at c.ring_accepts.ensures.accepts in
    is taken (subst (λ (w : WindowState). KeepsOf (64 * g.row.N) w taken) (sym c.self.view_is) keeps)
