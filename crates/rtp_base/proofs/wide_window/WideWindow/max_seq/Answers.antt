use Rattle.rtp_base.proofs.Common.{◌*◌, subst, arith, Numbers, WindowState, KeepsOf, ring_bits}
use Rattle.rtp_base.proofs.WindowLemmas.{KeepsOf-shown}
use Rattle.rtp_base.proofs.wide_window.WideWindow.max_seq.Goals as goal

pub returns-clause-some : goal.returns-clause-some
returns-clause-some g c =
    subst (λ (w : WindowState). (taken : Numbers) × KeepsOf (64 * g.row.N) w taken) c.self.view_is
    (KeepsOf-shown (64 * g.row.N) c.self.inside.greatest (ring_bits c.self.inside.words c.self.inside.greatest) (omega (arith, c.self.invariant.0)) c.self.invariant.2)
