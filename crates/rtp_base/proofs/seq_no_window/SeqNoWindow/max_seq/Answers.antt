use Rattle.rtp_base.proofs.Common.{subst, Numbers, WindowState, Keeps, bits_of}
use Rattle.rtp_base.proofs.WindowLemmas.{Keeps-shown}
use Rattle.rtp_base.proofs.seq_no_window.SeqNoWindow.max_seq.Goals as goal

pub returns-clause-some : goal.returns-clause-some
returns-clause-some c =
    subst (λ (w : WindowState). (taken : Numbers) × Keeps w taken) c.self.view_is (Keeps-shown c.self.inside.greatest (bits_of c.self.inside.recorded) c.self.invariant)
